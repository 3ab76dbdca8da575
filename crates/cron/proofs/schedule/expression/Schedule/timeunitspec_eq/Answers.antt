use Rattle.std.proofs.Common.{◌≡◌, ◌↔◌, Bool, ◌&&◌, IsTrue, subst, rules}
use Rattle.std.proofs.Math.Bool.{beq}
use Rattle.std.specs.Str.{bytes_eq}
use Rattle.cron_units.specs.Sets.{Sets}
use Rattle.cron.specs.Plan.{Plan}
use Rattle.cron.proofs.schedule.expression.Schedule.timeunitspec_eq.Goals as goal

-- all seven are equal exactly if the sets are
equal_sets : (a b : Sets) (r : Bool)
    → r ≡ (bytes_eq a.seconds b.seconds && (bytes_eq a.minutes b.minutes && (bytes_eq a.hours b.hours
    && ((bytes_eq a.days_of_month.ordinals b.days_of_month.ordinals && beq a.days_of_month.last_day b.days_of_month.last_day)
    && (bytes_eq a.months b.months && (bytes_eq a.days_of_week b.days_of_week && bytes_eq a.years b.years))))))
    → IsTrue r ↔ (a ≡ b)
equal_sets a b r h = search rules

pub returns : goal.returns
returns c =
    let equal = equal_sets c.self.inside.fields c.other.inside.fields c.eq.result c.eq.ensures in
    let first = subst (λ (p : Plan). IsTrue c.eq.result ↔ (p.sets ≡ c.other.inside.fields)) c.self.view_is equal in
    subst (λ (p : Plan). IsTrue c.eq.result ↔ (c.args.self.now.sets ≡ p.sets)) c.other.view_is first
