use Rattle.std.proofs.Common.{FitsSigned, w64, to_z-of_z, rules, subst, ℤ, arith}
use Rattle.cron_time.specs.Search.Inner.Starts.{Starts, LiesOutside}
use Rattle.cron_time.proofs.Searches.CountLemmas.{days_counted, conversions_counted, outside_days, outside_conversions}
use Rattle.cron_time.proofs.search.search_from.Goals as goal

pub returns-in_err-start-clause-days : goal.returns-in_err-start-clause-days
returns-in_err-start-clause-days c =
    let fits : FitsSigned w64 c.args.from = search rules in
    let P : ℤ → Type 0 = LiesOutside c.args.way in
    let outside = subst P (to_z-of_z fits) c.in_err-start.ensures in
    rw c.from_residual.ensures (omega (arith, outside_days c.args.way c.args.inquiry.now.sets c.args.from outside))

pub returns-in_err-start-clause-conversions : goal.returns-in_err-start-clause-conversions
returns-in_err-start-clause-conversions c =
    let fits : FitsSigned w64 c.args.from = search rules in
    let P : ℤ → Type 0 = LiesOutside c.args.way in
    let outside = subst P (to_z-of_z fits) c.in_err-start.ensures in
    rw c.from_residual.ensures (omega (arith, outside_conversions c.args.way c.args.inquiry.now.sets c.args.inquiry.now.zone c.args.from outside))

pub returns-clause-days : goal.returns-clause-days
returns-clause-days c =
    let fits : FitsSigned w64 c.args.from = search rules in
    let P : ℤ → Type 0 = λ from. Starts c.args.way from c.in_ok-start.start in
    let start : Starts c.args.way c.args.from c.in_ok-start.start = subst P (to_z-of_z fits) c.in_ok-start.ensures in
    let days = c.search_days_either_way.ensures.days in
    let counted = days_counted c.args.way c.args.inquiry.now.sets c.args.inquiry.now.zone c.args.from c.in_ok-start.start days.count
    c.search_days_either_way.result start c.search_days_either_way.ensures.found days.tally in
    omega (arith, days.is, counted)

pub returns-clause-conversions : goal.returns-clause-conversions
returns-clause-conversions c =
    let fits : FitsSigned w64 c.args.from = search rules in
    let P : ℤ → Type 0 = λ from. Starts c.args.way from c.in_ok-start.start in
    let start : Starts c.args.way c.args.from c.in_ok-start.start = subst P (to_z-of_z fits) c.in_ok-start.ensures in
    let asked = c.search_days_either_way.ensures.conversions in
    let counted = conversions_counted c.args.way c.args.inquiry.now.sets c.args.inquiry.now.zone c.args.from c.in_ok-start.start asked.count
    c.search_days_either_way.result start c.search_days_either_way.ensures.found asked.tally in
    omega (arith, asked.is, counted)
