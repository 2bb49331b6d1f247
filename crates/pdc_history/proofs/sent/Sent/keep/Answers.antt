use Rattle.std.proofs.Common.{ℕ, List, [], ◌∷◌, ◌++◌, sym, subst, ◌∙◌}
use Rattle.std.proofs.lemmas.Bool.{false≢true}
use Rattle.pdc_history.specs.Index.{Fits, IsIndexed}
use Rattle.pdc_history.specs.Sent.{SentView}
use Rattle.pdc_history.proofs.Keeping.{indexed_push}
use Rattle.pdc_history.proofs.Lookups.{keys_push}
use Rattle.pdc_history.proofs.sent.Sent.keep.Goals as goal

pub invariant_of-self : goal.invariant_of-self
invariant_of-self c =
    let fits : Fits c.self.inside.settings c.self.inside.frames.frames c.args.bytes.now c.args.bucket =
    subst (λ (v : SentView). Fits v.settings v.frames c.args.bytes.now c.args.bucket) (sym c.self.view_is) c.requires.fits in
    record {
      by_check = keys_push c.self.inside.frames.frames _ c.self.inside.by_check.keys _ c.args.bytes.now c.bucket_of.result c.self.invariant.by_check c.push_reserved.ensures c.push_reserved-2.ensures.keys c.bucket_of.ensures.bucket;
      indexed =
          subst (λ (F : List (List ℕ)). IsIndexed c.self.inside.settings F c.push_reserved-3.new.self.keys) (sym c.push_reserved.ensures)
          (subst (λ (K : List ℕ). IsIndexed c.self.inside.settings (c.self.inside.frames.frames ++ c.args.bytes.now ∷ []) K) (sym c.push_reserved-3.ensures.keys)
          (indexed_push c.self.inside.settings c.self.inside.frames.frames c.self.inside.by_key.keys c.args.bytes.now c.args.bucket c.self.invariant.indexed fits));
      check_words = c.push_reserved-2.ensures.buckets ∙ c.self.invariant.check_words;
      key_buckets = c.push_reserved-3.ensures.buckets ∙ c.self.invariant.key_buckets;
      room = λ e. absurd (false≢true e);
    }
