use Rattle.std.proofs.Common.{FitsSigned, w64, to_z-of_z, rules, ap, arith}
use Rattle.cron_moments.specs.Found.{second_of}
use Rattle.cron_time.proofs.Searches.CountLemmas.{days_at_most, found_in}
use Rattle.cron_time.proofs.search.search.Goals as goal

pub overflow_cast-result : goal.overflow_cast-result
overflow_cast-result c =
    let fits : FitsSigned w64 c.args.from = search rules in
    let asked = c.new-inquiry.result in
    let found = rw (to_z-of_z fits) at c.search_from-found.ensures.found in
    let few = days_at_most c.args.way asked.sets c.args.from (second_of c.search_from-found.result)
    (found_in c.args.way asked.sets asked.zone c.args.from c.search_from-found.result found) in
    let days = rw (to_z-of_z fits) at c.search_from-found.ensures.days in
    let none = ap (λ q. q.days) c.new-inquiry.ensures in
    omega (arith, c.days.ensures, days, few, none)
