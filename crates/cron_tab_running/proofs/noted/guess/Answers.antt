use Rattle.std.proofs.Common.{◌≡◌, ◌++◌, ◌∷◌, sym, ◌∙◌, ap, subst, drop, pos, codes, Some, IsSomeAnd, map}
use Rattle.std.specs.Fmt.{signed_decimal}
use Rattle.std.specs.Int.{int_div_euclid}
use Rattle.cron_tab_running.proofs.NoteTexts.{front_of, in_range, lines_of}
use Rattle.cron_tab_running.proofs.noted.guess.Goals as goal

pub returns-in-Some-2-clause-only : goal.returns-in-Some-2-clause-only
returns-in-Some-2-clause-only c = λ n is.
    let second = int_div_euclid n.until (pos 1_000_000_000) in
    let lines = lines_of n.entries in
    let rest : c.in-Some.rest.now ≡ signed_decimal second ++ 10 ∷ (lines ++ codes ".\n") = c.in-Some.ensures.cases.1 ∙ ap (drop 17) (sym is.1) in
    let cut = c.in-Some-cut_instant.ensures second (lines ++ codes ".\n") (in_range n.until is.0.0) rest in
    let front = c.in-Some-strip_suffix.ensures.cases.1 ∙ front_of c.in-Some-cut_instant.cut.1.now lines (codes ".\n") cut.1 in
    let read = subst (λ o. IsSomeAnd o (λ entries. map (λ e. e.items) entries.items ≡ n.entries)) c.in-Some-2.is (c.in_ok-entries.ensures.only n.entries is.0.1 front) in
    λ i. Some (record { until = cut.0 i; entries = read i })
