use Rattle.std.proofs.Common.{◌≡◌, ℕ, ◌++◌, ◌∷◌, [], ◌∙◌, ap, inl, inr, map, refl, subst, sym, Vec, Global}
use Rattle.std.proofs.lemmas.Result.{on_ok_weaker}
use Rattle.jiff.specs.Words.{plain_zone}
use Rattle.cron_tab_lines.specs.Views.{file_line_view}
use Rattle.cron_tab_agenda.specs.Adding.{changes_of}
use Rattle.cron_tab_running.specs.Loading.{AddsTimed, given, start_of, state_of, task}
use Rattle.cron_tab_running.specs.Noted.{AreLeft, entry_of, noted_view}
use Rattle.cron_tab_running.proofs.CountLemmas.{are_left-more, noted_by}
use Rattle.cron_tab_running.proofs.loading.add_task.Goals as goal

pub returns-in_default-clause-adds : goal.returns-in_default-clause-adds
returns-in_default-clause-adds c = (
  c.in_ok-push_text.ensures ∙ ap (λ e. map (λ t. t.items) c.args.loaded.now.known.items ++ e ∷ []) c.in_ok-entry.ensures,
  inl (c.in_default.ensures, refl, refl, c.in_ok-extend_from_slice.ensures.items ∙ ap (λ t. c.args.loaded.now.at_reboot.items ++ t) c.as_slice-in_default.ensures.value),
)

pub returns-in_default-clause-left : goal.returns-in_default-clause-left
returns-in_default-clause-left c =
    let known = map (λ t. t.items) c.args.loaded.now.known.items in
    let noted = (noted_view c.args.start.now.noted.now).entries in
    subst (λ ks. AreLeft noted ks c.start_of-after.new.counts) (sym (c.in_ok-push_text.ensures ∙ ap (λ e. known ++ e ∷ []) (sym c.as_slice.ensures.value)))
    (are_left-more noted known c.as_slice.result.now c.args.counts.now c.start_of-after.new.counts c.requires c.start_of-after.ensures.now)

pub returns-clause-adds : goal.returns-clause-adds
returns-clause-adds c =
    let g = given c.args.orders.now (map plain_zone c.args.start.now.zones.now) c.args.start.now.instant.nanosecond (noted_view c.args.start.now.noted.now) in
    let known = map (λ t. t.items) c.args.loaded.now.known.items in
    let entry = c.as_slice.ensures.value ∙ c.in_ok-entry.ensures in
    let after : c.start_of-after.result.nanosecond ≡ start_of g known (entry_of g.names (task (file_line_view c.args.line.now) c.args.zone c.args.text.items)) =
    rw (noted_by g.noted.entries known c.args.counts.now c.as_slice.result.now c.requires, entry) at c.start_of-after.ensures.is in
    on_ok_weaker c.add_table.result
    (λ both. (
      ap (λ (v : Vec (Vec ℕ Global) Global). map (λ t. t.items) v.items) both.0 ∙ c.in_ok-push_text.ensures ∙ ap (λ e. known ++ e ∷ []) c.in_ok-entry.ensures,
      inr (
        c.in-Some.table,
        c.in-Some.ensures,
        subst (λ t. AddsTimed g t c.args.zone (changes_of c.args.orders.now.clock c.args.line.now.bytes.now) c.in-Some.table c.args.text.items (state_of c.args.loaded.now) (state_of c.add_table.new.loaded)) after both.1,
      ),
    ))
    c.add_table.ensures.adds

pub returns-clause-left : goal.returns-clause-left
returns-clause-left c =
    let known = map (λ t. t.items) c.args.loaded.now.known.items in
    let noted = (noted_view c.args.start.now.noted.now).entries in
    let pushed = c.in_ok-push_text.ensures ∙ ap (λ e. known ++ e ∷ []) (sym c.as_slice.ensures.value) in
    on_ok_weaker c.add_table.result
    (λ both. subst (λ ks. AreLeft noted ks c.start_of-after.new.counts) (sym (ap (λ (v : Vec (Vec ℕ Global) Global). map (λ t. t.items) v.items) both.0 ∙ pushed))
    (are_left-more noted known c.as_slice.result.now c.args.counts.now c.start_of-after.new.counts c.requires c.start_of-after.ensures.now))
    c.add_table.ensures.adds
