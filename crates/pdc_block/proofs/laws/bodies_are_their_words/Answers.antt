use Rattle.pdc_block.proofs.Bodies.{body_of_bytes, one_body, words_count, words_fit, words_spell}
use Rattle.pdc_block.proofs.laws.bodies_are_their_words.Goals as goal

pub returns-clause-found : goal.returns-clause-found
returns-clause-found c = body_of_bytes c.words_are_their_bytes.ensures

pub returns-clause-only : goal.returns-clause-only
returns-clause-only c = one_body c.words_are_their_bytes.ensures

pub returns-clause-words : goal.returns-clause-words
returns-clause-words c = record { count = words_count; fit = words_fit; spell = words_spell c.words_are_their_bytes.ensures }
