-- What came, one step after the other.
use Rattle.std.proofs.Common.{◌≡◌, ℕ, ◌+◌, ◌-◌, ◌<◌, ◌≤◌, List, [], ◌∷◌, ◌++◌, length, take, drop, Option, Some, None, Ok, Err, refl, sym, ap, subst, ◌∙◌, arith, append_assoc, length-append, length-take}
use Rattle.std.proofs.lemmas.List.{append-nil, drop-drop, drop-take, take-append-drop}
use Rattle.std.specs.Io.KnownBytes.{Consumes}
use Rattle.pdc_frame.specs.declared.step.Step.{Step}
use Rattle.pdc_frame.specs.declared.step.Step.TheVariants.{Whole}
use Rattle.pdc_frame.specs.Stream.{Held, HasTaken, given_at}
use Rattle.std.proofs.lemmas.List.Elements.{All-nil, All-push}
use Rattle.std.proofs.Math.Seq.{drop-length}
use Rattle.pdc_frame.specs.declared.frame.Kind.{Kind}
use Rattle.pdc_session.specs.declared.client_fault.ClientFault.TheVariants.{BadStream, NoAnswer}
use Rattle.pdc_session.specs.Search.{Finds, Follows, IsOther, IsWanted, PassesOver, Searches}
use Rattle.pdc_session.specs.declared.search.TheConstants.{MAX_FRAMES}

-- the rest of a part of a list is a part of its rest
pub skipped : (items : List ℕ) (begin stop count : ℕ) → begin ≤ stop → count ≤ length (take (stop - begin) (drop begin items))
    → take (stop - (begin + count)) (drop (begin + count) items) ≡ drop count (take (stop - begin) (drop begin items))
skipped items begin stop count le few =
    let m : ℕ = stop - (begin + count) in
    let all : stop - begin ≡ count + m = omega (arith, length-take (stop - begin) (drop begin items)) in
    ap (take m) (sym (drop-drop count begin items)) ∙ sym (drop-take count m (drop begin items)) ∙ ap (λ (n : ℕ). drop count (take n (drop begin items))) (sym all)

consumes_none : (remaining : Option (List ℕ)) → Consumes remaining remaining []
consumes_none None = tt
consumes_none (Some xs) = refl

consumes_more : (remaining mid rest : Option (List ℕ)) (first second : List ℕ) → Consumes remaining mid first → Consumes mid rest second → Consumes remaining rest (first ++ second)
consumes_more None mid rest first second h k = tt
consumes_more (Some xs) None rest first second h k = absurd h
consumes_more (Some xs) (Some ys) None first second h k = absurd k
consumes_more (Some xs) (Some ys) (Some zs) first second h k = h ∙ ap (λ (bs : List ℕ). first ++ bs) k ∙ sym (append_assoc first second zs)

-- nothing came yet
pub follows_start : (held : Held) (unread : List ℕ) (remaining : Option (List ℕ)) → Follows held unread remaining [] held unread remaining
follows_start held unread remaining = record {
  taken = [];
  read = [];
  stream = λ stream before h. subst (λ (fs : List (List ℕ)). HasTaken (stream ++ []) fs held) (sym (append-nil before)) (subst (λ (xs : List ℕ). HasTaken xs before held) (sym (append-nil stream)) h);
  whole = append-nil unread;
  came = consumes_none remaining;
}

-- a framer took some of what was unread
pub follows_fed : (held later : Held) (unread left piece bytes : List ℕ) (n : ℕ) (step : Step) (frames : List (List ℕ)) (remaining : Option (List ℕ)) → piece ≡ unread → left ≡ drop n unread
    → ((stream : List ℕ) (before : List (List ℕ)) → HasTaken stream before held → HasTaken (stream ++ take n piece) (before ++ given_at step bytes) later)
    → given_at step bytes ≡ frames → Follows held unread remaining frames later left remaining
follows_fed held later unread left piece bytes n step frames remaining same e fed given = record {
  taken = take n unread;
  read = [];
  stream = λ stream before h. subst (λ (fs : List (List ℕ)). HasTaken (stream ++ take n unread) (before ++ fs) later) given
      (subst (λ (xs : List ℕ). HasTaken (stream ++ take n xs) (before ++ given_at step bytes) later) same (fed stream before h));
  whole = append-nil unread ∙ sym (take-append-drop n unread) ∙ ap (λ (xs : List ℕ). take n unread ++ xs) (sym e);
  came = consumes_none remaining;
}

-- more was read
pub follows_read : (held : Held) (unread left : List ℕ) (remaining rest : Option (List ℕ)) → unread ≡ [] → Consumes remaining rest left → Follows held unread remaining [] held left rest
follows_read held unread left remaining rest none came = record {
  taken = [];
  read = left;
  stream = λ stream before h. subst (λ (fs : List (List ℕ)). HasTaken (stream ++ []) fs held) (sym (append-nil before)) (subst (λ (xs : List ℕ). HasTaken xs before held) (sym (append-nil stream)) h);
  whole = ap (λ (xs : List ℕ). xs ++ left) none;
  came = came;
}

pub follows_more : (held mid later : Held) (unread between left : List ℕ) (remaining partly rest : Option (List ℕ)) (frames more : List (List ℕ)) → Follows held unread remaining frames mid between partly
    → Follows mid between partly more later left rest → Follows held unread remaining (frames ++ more) later left rest
follows_more held mid later unread between left remaining partly rest frames more h k = record {
  taken = h.taken ++ k.taken;
  read = h.read ++ k.read;
  stream = λ stream before has. subst (λ (fs : List (List ℕ)). HasTaken (stream ++ (h.taken ++ k.taken)) fs later) (append_assoc before frames more)
      (subst (λ (xs : List ℕ). HasTaken xs ((before ++ frames) ++ more) later) (append_assoc stream h.taken k.taken) (k.stream (stream ++ h.taken) (before ++ frames) (h.stream stream before has)));
  whole = sym (append_assoc unread h.read k.read) ∙ ap (λ (xs : List ℕ). xs ++ k.read) h.whole ∙ append_assoc h.taken between k.read ∙ ap (λ (xs : List ℕ). h.taken ++ xs) k.whole ∙ sym (append_assoc h.taken k.taken left);
  came = consumes_more remaining partly rest h.read k.read h.came k.came;
}

-- all was taken
pub none_left : (unread piece : List ℕ) (n : ℕ) → piece ≡ unread → n ≡ length piece → drop n unread ≡ []
none_left unread piece n same e = ap (λ (k : ℕ). drop k unread) (e ∙ ap (λ (xs : List ℕ). length xs) same) ∙ drop-length unread

pub passes_start : (id : ℕ) (kind : Kind) (held : Held) (unread : List ℕ) (remaining : Option (List ℕ)) → PassesOver id kind 0 held unread remaining held unread remaining
passes_start id kind held unread remaining = record { others = []; counted = refl; passed = All-nil (λ bytes. IsOther id kind bytes); follows = follows_start held unread remaining }

pub passes_one : (id : ℕ) (kind : Kind) (count : ℕ) (held mid later : Held) (unread between left : List ℕ) (remaining partly rest : Option (List ℕ)) → PassesOver id kind count held unread remaining mid between partly
    → Follows mid between partly (later.bytes ∷ []) later left rest → IsOther id kind later.bytes → PassesOver id kind (count + 1) held unread remaining later left rest
passes_one id kind count held mid later unread between left remaining partly rest h k other = record {
  others = h.others ++ later.bytes ∷ [];
  counted = length-append h.others (later.bytes ∷ []) ∙ ap (λ (n : ℕ). n + 1) h.counted;
  passed = All-push (λ bytes. IsOther id kind bytes) h.others later.bytes h.passed other;
  follows = follows_more held mid later unread between left remaining partly rest h.others (later.bytes ∷ []) h.follows k;
}

pub finds_one : (id : ℕ) (kind : Kind) (count : ℕ) (held mid later : Held) (unread between left : List ℕ) (remaining partly rest : Option (List ℕ)) → PassesOver id kind count held unread remaining mid between partly
    → Follows mid between partly (later.bytes ∷ []) later left rest → count < MAX_FRAMES → IsWanted id kind later.bytes → later.step ≡ Whole → Finds id kind held unread remaining later left rest
finds_one id kind count held mid later unread between left remaining partly rest h k few wanted whole = record {
  others = h.others;
  few = subst (λ (n : ℕ). n < MAX_FRAMES) (sym h.counted) few;
  passed = h.passed;
  wanted = wanted;
  whole = whole;
  follows = follows_more held mid later unread between left remaining partly rest h.others (later.bytes ∷ []) h.follows k;
}

-- ---- what a search answers

pub searches_found : {T : Type 0} (id : ℕ) (kind : Kind) (held : Held) (unread : List ℕ) (remaining : Option (List ℕ)) (later : Held) (left : List ℕ) (rest : Option (List ℕ)) (reads_left : ℕ) (done : T)
    → Finds id kind held unread remaining later left rest → Searches id kind held unread remaining later left rest reads_left (Ok done)
searches_found id kind held unread remaining later left rest reads_left done finds = record {
  found = finds;
  memory = λ e. finds;
  bad = λ e. let no : Ok done ≡ Err BadStream = e in cc;
  no_answer = λ e. let no : Ok done ≡ Err NoAnswer = e in cc;
}
