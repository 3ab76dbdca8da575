use Rattle.std.proofs.Common.{◌≡◌, ◌<◌, ◌-◌, ◌==◌, ℕ, ℤ, List, [], ◌∷◌, length, take, drop, slice_index_or, Bool, true, false, Some, None, Bor, ap, arith, refl, subst, sym}
use Rattle.std.proofs.lemmas.Bool.Decides.{nat_tests}
use Rattle.std.proofs.lemmas.List.{take_all}
use Rattle.jiff_tz.specs.declared.timezone.TimeZone.{TimeZone}
use Rattle.cron_answers.specs.Spans.{Begins, HasEnd, HasNoEnd, IsNamedTime, IsOther, IsTime}
use Rattle.cron_answers.specs.declared.span.Span.TheVariants.{Ends, Whole}
use Rattle.cron_answers.proofs.SpanLemmas.{holds, fails}
use Rattle.cron_answers.proofs.span.span_before.Goals as goal

-- START and END, and the words after them
with_ends : (words : List (Bor (List ℕ))) (d : Bor (List ℕ)) (z : TimeZone) (now : ℤ) → HasEnd words z now
    → Begins words z now (Some (Ends (slice_index_or words 0 d) (slice_index_or words 1 d))) (take (length words - 2) (drop 2 words))
with_ends [] d z now h = let none : 0 ≡ length (h.0 ∷ (h.1 ∷ h.2)) = ap length h.3 in absurd (grind arith)
with_ends (a ∷ []) d z now h = let one : 1 ≡ length (h.0 ∷ (h.1 ∷ h.2)) = ap length h.3 in absurd (grind arith)
with_ends (a ∷ (b ∷ rest)) d z now h = (
  ap (λ t. a ∷ (b ∷ t)) (sym (take_all (length (a ∷ (b ∷ rest)) - 2) rest (grind arith))),
  subst (λ (w : Bor (List ℕ)). IsTime w.now z now) (sym (ap (λ w. slice_index_or w 1 d) h.3)) h.4,
)

-- one word, and those after it
with_word : (words : List (Bor (List ℕ))) (d : Bor (List ℕ)) (z : TimeZone) (now : ℤ) → 0 < length words → HasNoEnd words z now
    → IsNamedTime (slice_index_or words 0 d).now z now → Begins words z now (Some (Whole (slice_index_or words 0 d))) (take (length words - 1) (drop 1 words))
with_word [] d z now some h t = absurd (omega arith)
with_word (a ∷ rest) d z now some h t = (h, ap (λ r. a ∷ r) (sym (take_all (length (a ∷ rest) - 1) rest (grind arith))), t)

-- no span, as the first word is none
with_none : (words : List (Bor (List ℕ))) (d : Bor (List ℕ)) (z : TimeZone) (now : ℤ) → HasNoEnd words z now → IsOther (slice_index_or words 0 d).now z now
    → Begins words z now None words
with_none words d z now h t = (h, refl, λ word others e. subst (λ (w : Bor (List ℕ)). IsOther w.now z now) (ap (λ w. slice_index_or w 0 d) e) t)

-- no word at all
empty : (words : List (Bor (List ℕ))) (z : TimeZone) (now : ℤ) (t : Bool) → HasNoEnd words z now → t ≡ (length words == 0) → t ≡ true
    → Begins words z now None words
empty [] z now t h is full = (h, refl, λ word others e. let none : 0 ≡ length (word ∷ others) = ap length e in absurd (grind arith))
empty (a ∷ rest) z now t h is full = let none : length (a ∷ rest) ≡ 0 = grind (arith, nat_tests) in absurd (grind arith)

filled : (n : ℕ) (t : Bool) → t ≡ (n == 0) → t ≡ false → 0 < n
filled n t is some = grind (arith, nat_tests)

pub returns-then-has_end : goal.returns-then-has_end
returns-then-has_end c = with_ends c.args.words.now _ _ _ (holds c.has_end.result _ _ c.has_end.ensures.end c.if-has_end.true)

pub returns-then-is_empty : goal.returns-then-is_empty
returns-then-is_empty c =
    empty c.args.words.now _ _ c.is_empty.result (fails c.has_end.result _ _ c.has_end.ensures.end c.if-has_end.false) c.is_empty.ensures c.if-is_empty.true

pub returns-then-is_time : goal.returns-then-is_time
returns-then-is_time c =
    with_word c.args.words.now _ _ _ (filled (length c.args.words.now) c.is_empty.result c.is_empty.ensures c.if-is_empty.false)
    (fails c.has_end.result _ _ c.has_end.ensures.end c.if-has_end.false) (holds c.is_time.result _ _ c.is_time.ensures c.if-is_time.true)

pub returns : goal.returns
returns c =
    with_none c.args.words.now _ _ _ (fails c.has_end.result _ _ c.has_end.ensures.end c.if-has_end.false)
    (fails c.is_time.result _ _ c.is_time.ensures c.if-is_time.false)
