use Rattle.std.proofs.Common.{◌≡◌, ◌∙◌, Some, ap, rules}
use Rattle.cron_instants.proofs.AgreementLemmas.{same_offset}
use Rattle.cron_instants.proofs.joined.around_at.Goals as goal

pub returns-clause-one : goal.returns-clause-one
returns-clause-one c =
    let one = c.in_ok-own.ensures in
    let equal : c.in_ok-own.own.seconds ≡ c.args.offset.seconds = search rules in
    (one.0 ∙ ap Some (same_offset c.in_ok-own.own c.args.offset equal), one.1)
