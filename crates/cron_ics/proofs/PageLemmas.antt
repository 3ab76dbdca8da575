-- The event of one span more.
use Rattle.std.proofs.Common.{◌≡◌, ℕ, ◌+◌, ◌<◌, ◌≤◌, List, [], ◌∷◌, ◌++◌, get_or, length, refl, sym, subst, drop, drop-cons, suc, ap, ◌∙◌, append_assoc, append-nil, arith}
use lib.ListN.{drop_of_length-le}
use Rattle.cron_ics.specs.Pages.{AreSpans}
use Rattle.cron_ics.specs.Spans.{IsSpan}
use Rattle.cron_ics.specs.declared.span.Span.{Span}
use Rattle.cron_ics.specs.declared.spans.Series.{Series}

-- what comes behind the events of the spans before a place makes the whole
abbrev pub Makes : Series → List Span → ℕ → List ℕ → Type 0
Makes s xs i pushed = (rest : List ℕ) → AreSpans s (drop i xs) rest → AreSpans s xs (pushed ++ rest)

pub one_more : (s : Series) (xs : List Span) (i : ℕ) (x : Span) (pushed own : List ℕ) → i < length xs → x ≡ get_or xs i x
    → IsSpan s x.summary.now x.from x.until own → Makes s xs i pushed → Makes s xs (i + 1) (pushed ++ own)
one_more s xs i x pushed own within is event makes rest are =
    subst (AreSpans s xs) (sym (append_assoc pushed own rest))
    (makes (own ++ rest) (subst (λ (l : List Span). AreSpans s l (own ++ rest)) back (own, rest, event, refl, are)))
  where
    back : x ∷ drop (i + 1) xs ≡ drop i xs
    back =
        let on : i + 1 ≡ suc i = omega arith in
        ap (λ y. y ∷ drop (i + 1) xs) is ∙ (ap (λ n. get_or xs i x ∷ drop n xs) on ∙ sym (drop-cons xs i x within))

pub no_more : (s : Series) (xs : List Span) (i : ℕ) (pushed : List ℕ) → length xs ≤ i → Makes s xs i pushed → AreSpans s xs pushed
no_more s xs i pushed past makes =
    subst (AreSpans s xs) (append-nil pushed) (makes [] (subst (λ (l : List Span). AreSpans s l []) (sym (drop_of_length-le xs {i = i} past)) refl))
