use Rattle.std.proofs.Common.{◌∙◌, ap, arith, refl, sym}
use Rattle.jiff_tz.specs.PosixText.{tz_view}
use Rattle.std.specs.Prelude.{option_map}
use Rattle.cron_clocks.proofs.TableLemmas.{transitions_length}
use Rattle.cron_c.proofs.TableEras.{last_says, plain_says, short_says, transitions_told}
use Rattle.cron_c.proofs.era_table.rule_past.Goals as goal

pub returns-then-count-transitions : goal.returns-then-count-transitions
returns-then-count-transitions c =
    let rows = transitions_told c.args.table.now c.transitions.result.now c.transitions.ensures in
    short_says c.args.table.now c.args.count c.fixed_rule.result (omega (arith, c.if-count-transitions.true))
    (c.fixed_rule.ensures.offset ∙ c.offset_past.ensures) c.fixed_rule.ensures.saving

pub returns-in-Some : goal.returns-in-Some
returns-in-Some c =
    let rows = transitions_told c.args.table.now c.transitions.result.now c.transitions.ensures in
    let size = transitions_length c.args.table.now in
    last_says c.args.table.now c.args.count c.in-Some.rule c.args.table.now.posix_tz refl
    (sym (ap (option_map tz_view) c.in-Some.is) ∙ c.posix_tz.ensures)
    (omega (arith, c.if-count-transitions.false, c.requires))

pub returns-in-None : goal.returns-in-None
returns-in-None c =
    plain_says c.args.table.now c.args.count c.fixed_rule-in-None.result
    (sym (ap (option_map tz_view) c.in-None.is) ∙ c.posix_tz.ensures)
    (c.fixed_rule-in-None.ensures.offset ∙ c.offset_past-in-None.ensures) c.fixed_rule-in-None.ensures.saving
