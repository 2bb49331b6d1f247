use Rattle.std.proofs.Common.{[], ◌++◌, ◌∙◌, ap, sym}
use Rattle.std.proofs.lemmas.List.{append-nil}
use Rattle.pdc_frame.specs.Frame.{spelling_of}
use Rattle.pdc_frame.proofs.Spellings.{found}
use Rattle.pdc_frame.proofs.laws.spellings_stand_apart.Goals as goal

pub returns-clause-found : goal.returns-clause-found
returns-clause-found c = found

pub returns-clause-same : goal.returns-clause-same
returns-clause-same c = λ f g hf hg e. (found f g [] [] hf hg (ap (λ xs. xs ++ []) e)).0

pub returns-clause-front : goal.returns-clause-front
returns-clause-front c = λ f g rest hf hg e. let r = found f g rest [] hf hg (e ∙ sym (append-nil (spelling_of g))) in (r.1, r.0)
