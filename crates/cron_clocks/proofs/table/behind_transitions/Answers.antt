use Rattle.std.proofs.Common.{◌≡◌, ◌∙◌, subst, sym}
use Rattle.jiff_core.specs.declared.civil.datetime.DateTime.{DateTime}
use Rattle.jiff_tz.specs.PosixRule.{ambiguous_at}
use Rattle.jiff_tz.specs.Tzif.{ambiguous_after}
use Rattle.cron_moments.specs.Civil.{civil}
use Rattle.cron_clocks.specs.Steady.{IsToldBy}
use Rattle.cron_clocks.proofs.TableLemmas.{past_all}
use Rattle.cron_clocks.proofs.table.behind_transitions.Goals as goal

pub returns-in-Some-clause-alike : goal.returns-in-Some-clause-alike
returns-in-Some-clause-alike c k above below =
    let by : (dt : DateTime) → ambiguous_after c.args.table.now c.args.count dt ≡ ambiguous_at c.in-Some.rule dt =
    λ dt. past_all c.args.table.now c.args.count c.in-Some.rule c.posix_tz.result c.transitions.result.now dt c.posix_tz.ensures c.in-Some.is
    c.transitions.ensures
    c.if-count-transitions.true in
    by (civil k) ∙ c.rule_offsets.ensures.alike k above below ∙ sym (by (civil c.args.second))

pub returns-in-Some-clause-told : goal.returns-in-Some-clause-told
returns-in-Some-clause-told c =
    subst (λ a. IsToldBy a c.rule_offsets.result.earlier c.rule_offsets.result.later)
    (sym (past_all c.args.table.now c.args.count c.in-Some.rule c.posix_tz.result c.transitions.result.now (civil c.args.second) c.posix_tz.ensures c.in-Some.is
    c.transitions.ensures c.if-count-transitions.true))
    c.rule_offsets.ensures.told
