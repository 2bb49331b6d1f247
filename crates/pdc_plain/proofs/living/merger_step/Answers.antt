use Rattle.pdc_plain.proofs.living.merger_step.Goals as goal

pub returns-in_ok-answer-in-Arrive-clause-life : goal.returns-in_ok-answer-in-Arrive-clause-life
returns-in_ok-answer-in-Arrive-clause-life c = record {
  given = c.requires.life.given;
  life = (c.read_from_node-arrival.ensures, c.in_ok-answer-in-Arrive.ensures, c.requires.life.life);
}
