use Rattle.std.proofs.Common.{List, [], inr, sym, ◌∙◌, subst, append-nil, refl}
use Rattle.std.specs.Prelude.{Option}
use Rattle.std.proofs.lemmas.Bool.{true≢false}
use Rattle.jiff.specs.Words.{plain_zone}
use Rattle.cron_units.specs.Sets.{Sets}
use Rattle.cron_fires.specs.declared.changes.ClockChanges.{ClockChanges}
use Rattle.cron_tab_lines.specs.Views.{file_line_view}
use Rattle.cron_tab_agenda.specs.Tabs.{set_of}
use Rattle.cron_tab_context.specs.Times.{AreFires, HasNoFire}
use Rattle.cron_tab_context.proofs.times.push_fires.Goals as goal

pub returns-else-has_no_fire : goal.returns-else-has_no_fire
returns-else-has_no_fire c =
    let line = file_line_view c.args.line.now in
    let z = plain_zone c.args.zone.now in
    let t = c.args.start.nanosecond in
    let end = c.year_after.result.nanosecond in (
      [],
      sym (append-nil c.args.found.now.items),
      subst (λ (ss : Option (List Sets)). AreFires line ss z t []) (sym c.in-Some.ensures.1) (
        end,
        c.year_after.ensures,
        inr (
          λ none. true≢false
              (sym (c.has_no_fire.ensures.1 (subst (λ (changes : ClockChanges). HasNoFire (set_of c.in-Some.entry) z changes t end) (sym c.changes_of-changes.ensures) none))
              ∙ c.if-has_no_fire.false),
          refl,
        ),
      ),
    )
