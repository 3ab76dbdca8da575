use Rattle.std.proofs.Common.{◌≡◌, ℤ, w64, FitsSigned, inl, inr, refl, rules, sym, ap, ◌∙◌, subst, to_z-of_z}
use Rattle.cron_c.specs.Agendas.{AreSameBut, FirstIsDue, gone_on}
use Rattle.cron_c.specs.declared.entry.CronEntry.{CronEntry}
use Rattle.cron_c.proofs.AgendaLemmas.{comes, stuck_says}
use Rattle.cron_c.proofs.agenda.take_first.Goals as goal
use Rattle.cron_c.proofs.agenda.take_first.Goals.{in-Done, in-NoItem}

pub returns-in_default-status : goal.returns-in_default-status
returns-in_default-status c =
    let fits : FitsSigned w64 c.args.now = search rules in
    let first = subst (λ (now : ℤ). FirstIsDue now c.args.entries.now c.in-Some.at) (to_z-of_z fits) c.in-Some.ensures in
    stuck_says c.args.schedules.now c.args.eras.now c.args.now c.args.entries.now c.args.place.now c.in-Some.at c.go_on-status.new.next
    c.args.item.now c.go_on-status.result
    (comes c.args.schedules.now c.args.eras.now c.args.now c.args.entries.now c.in-Some.at _ c.go_on-status.new.next c.go_on-status.result
    c.if-at-entries.false first c.go_on-status.ensures)
    c.in_default-status.not-Done c.in_default-status.not-NoItem

pub returns : goal.returns
returns c =
    let fits : FitsSigned w64 c.args.now = search rules in
    let first = subst (λ (now : ℤ). FirstIsDue now c.args.entries.now c.in-Some.at) (to_z-of_z fits) c.in-Some.ensures in
    let due =
    comes c.args.schedules.now c.args.eras.now c.args.now c.args.entries.now c.in-Some.at _ c.go_on-status.new.next c.go_on-status.result
    c.if-at-entries.false first c.go_on-status.ensures in
    let same : c.match-status.gone_on ≡ gone_on due.entry c.go_on-status.new.next c.go_on-status.result =
    elim c.match-status.branch [
      | in-Done w ↦ w.gone_on-is ∙ (w.with_next-gone_on.ensures ∙ ap (gone_on due.entry c.go_on-status.new.next) (sym w.in-Done.is))
      | in-NoItem w ↦ w.gone_on-is ∙ (w.ended-gone_on.ensures ∙ ap (gone_on due.entry c.go_on-status.new.next) (sym w.in-NoItem.is))
    ] in
    record {
      next = c.go_on-status.new.next;
      status = c.go_on-status.result;
      comes = due;
      went = elim c.match-status.branch [ in-Done w ↦ inl w.in-Done.is | in-NoItem w ↦ inr w.in-NoItem.is ];
      is = refl;
      left = subst (λ (e : CronEntry). AreSameBut c.args.entries.now c.in-Some.at e c.put.new.entries) same c.put.ensures.same;
      agenda = c.put.ensures.tree;
    }
