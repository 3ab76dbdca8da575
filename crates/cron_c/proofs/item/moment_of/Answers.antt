use Rattle.std.proofs.Common.{◌≡◌, Some, rules}
use Rattle.std.specs.Prelude.{IfSome}
use Rattle.cron_moments.specs.Readings.{Reading}
use Rattle.cron_moments.specs.Parts.{ShowsAt}
use Rattle.cron_c.proofs.Items.{moment_is}
use Rattle.cron_c.proofs.item.moment_of.Goals as goal

pub returns : goal.returns
returns c =
    let offset : c.in-Ok.offset.seconds ≡ c.args.item.offset = search rules in
    let parts : IfSome c.moment_at.result (ShowsAt c.args.item.instant c.in-Ok.offset) = search rules in
    let only : (m : Reading) → ShowsAt c.args.item.instant c.in-Ok.offset m → c.moment_at.result ≡ Some m = search rules in
    let zero : c.args.item.reserved ≡ 0 = search rules in
    moment_is c.moment_at.result c.args.item c.in-Ok.offset zero offset parts only
