use Rattle.pdc_service.proofs.serving.run_named.Goals as goal

pub returns-in_default : goal.returns-in_default
returns-in_default g c = c.not_begun.ensures c.args.serving.now.concentrator.now
