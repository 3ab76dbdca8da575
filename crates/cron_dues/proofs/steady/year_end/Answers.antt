use Rattle.std.proofs.Common.{pos, ◌*ℤ◌, w64, FitsSigned, to_z, of_z, to_z-of_z, rules, arith, ap, ◌∙◌}
use Rattle.jiff_core.proofs.SignedLemmas.{signed_casts}
use Rattle.jiff_tz.specs.PosixRule.{first_day}
use Rattle.cron_dues.proofs.YearLemmas.{one_second, next_year, to_year_end}
use Rattle.cron_dues.proofs.steady.year_end.Goals as goal

pub returns-then-year-ge9999-clause-year : goal.returns-then-year-ge9999-clause-year
returns-then-year-ge9999-clause-year c = one_second c.args.second _ (omega (arith, signed_casts, c.requires))

pub returns-clause-year : goal.returns-clause-year
returns-clause-year c =
    let fits : FitsSigned w64 c.new_year.result = search rules in
    let fits-second : FitsSigned w64 c.args.second = search rules in
    let next = next_year c.date_at-year.result.year c.date_at-year.result.year_in c.if-year-ge9999.false in
    let end = ap (λ y. first_day y *ℤ pos 86_400) next in
    let day = rw (to_z-of_z fits-second) at c.date_at-year.ensures in
    (to_year_end c.args.second (to_z w64 (of_z w64 c.new_year.result)) c.date_at-year.result day (to_z-of_z fits ∙ c.new_year.ensures.value ∙ end)).0

pub returns-clause-later : goal.returns-clause-later
returns-clause-later c =
    let fits : FitsSigned w64 c.new_year.result = search rules in
    let fits-second : FitsSigned w64 c.args.second = search rules in
    let next = next_year c.date_at-year.result.year c.date_at-year.result.year_in c.if-year-ge9999.false in
    let end = ap (λ y. first_day y *ℤ pos 86_400) next in
    let day = rw (to_z-of_z fits-second) at c.date_at-year.ensures in
    (to_year_end c.args.second (to_z w64 (of_z w64 c.new_year.result)) c.date_at-year.result day (to_z-of_z fits ∙ c.new_year.ensures.value ∙ end)).1
