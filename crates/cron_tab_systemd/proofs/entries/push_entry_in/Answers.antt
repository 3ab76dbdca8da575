use Rattle.std.proofs.Common.{◌≡◌, [], None, Some, map, sym, ap, ◌∙◌, subst, append-nil, refl}
use Rattle.std.specs.Option.{option_map}
use Rattle.std.specs.Prelude.{Option, OnOk}
use Rattle.std.proofs.lemmas.Option.{slice_get-map}
use Rattle.jiff.specs.Words.{plain_zone}
use Rattle.jiff_tz.specs.declared.timezone.TimeZone.{TimeZone}
use Rattle.cron_agenda.proofs.ListLemmas.{get_past, get_there}
use Rattle.cron_tab_context.specs.Inner.{Appends}
use Rattle.cron_shell.specs.Lines.{variable_view}
use Rattle.cron_tab_lines.specs.Views.{entry_view, file_line_view}
use Rattle.cron_tab_context.specs.Times.{zone_at}
use Rattle.cron_tab_systemd.specs.Lines.{IsMadeIn, given}
use Rattle.cron_tab_systemd.proofs.entries.push_entry_in.Goals as goal

pub returns-in-None : goal.returns-in-None
returns-in-None c =
    let zones = c.args.zones.now in
    let number = c.in-Some.number in
    let none : zone_at (map plain_zone zones) c.args.here ≡ None =
    ap (zone_at (map plain_zone zones)) c.in-Some.is ∙ (slice_get-map plain_zone zones number ∙ ap (option_map plain_zone) (get_past zones number c.in-None.ensures.lookup.3)) in (
      [],
      sym (append-nil c.args.made.now.items),
      subst (λ (z : Option TimeZone). IsMadeIn (given c.args.asked.now) z (map variable_view c.args.variables.now) (file_line_view c.args.line.now) (entry_view c.args.entry.now) []) (sym none) refl,
    )

pub returns-in-Some-get : goal.returns-in-Some-get
returns-in-Some-get c =
    let zones = c.args.zones.now in
    let number = c.in-Some.number in
    let zone = c.in-Some-get.zone.now in
    let there : zone_at (map plain_zone zones) c.args.here ≡ Some (plain_zone zone) =
    ap (zone_at (map plain_zone zones)) c.in-Some.is ∙ (slice_get-map plain_zone zones number
    ∙ ap (option_map plain_zone) (get_there zones number zone c.in-Some-get.ensures.lookup.3.0 c.in-Some-get.ensures.lookup.3.1)) in
    subst (λ (z : Option TimeZone). OnOk c.push_entry.result (Appends (IsMadeIn (given c.args.asked.now) z (map variable_view c.args.variables.now) (file_line_view c.args.line.now) (entry_view c.args.entry.now)) c.args.made.now.items c.push_entry.new.made.items))
    (sym there) c.push_entry.ensures
