use Rattle.std.proofs.Common.{inl, inr, refl, subst}
use Rattle.std.specs.Prelude.{Ok, Err}
use Rattle.cron_tab_running.specs.Alarms.{AddsAlarm}
use Rattle.cron_tab_running.proofs.AlarmLemmas.{alarm-added}
use Rattle.cron_tab_running.proofs.alarm.ring_at.Goals as goal

pub returns-in-Ok-add : goal.returns-in-Ok-add
returns-in-Ok-add g c =
    inl (
      c.in-Ok.now,
      c.now.new.self,
      c.in-Ok.ensures,
      inl (
        c.in-Ok-add.field-0,
        c.add.new.self,
        alarm-added c.args.alarm.now c.in-Ok.now (record { schedules = c.args.alarm.now.schedules }) c.new-agenda.result c.add.new.self (Ok c.in-Ok-add.field-0)
            refl c.new-agenda.ensures c.in-Ok-add.ensures,
        (c.run.result, (c.run.new.agenda, c.run.ensures), c.outcome_of.ensures),
      ),
    )

pub returns-in-Err-NoFires : goal.returns-in-Err-NoFires
returns-in-Err-NoFires g c =
    let none = alarm-added c.args.alarm.now c.in-Ok.now (record { schedules = c.args.alarm.now.schedules }) c.new-agenda.result c.add.new.self
    (Err c.in-Err-NoFires.field-0) refl c.new-agenda.ensures c.in-Err-NoFires.ensures in
    let added = subst (λ e. AddsAlarm c.args.alarm.now c.in-Ok.now (Err e) c.add.new.self) c.in-Err-NoFires.field-0-is none in
    inl (c.in-Ok.now, c.now.new.self, c.in-Ok.ensures, inr (inl ((c.add.new.self, added), refl, refl, refl)))

pub returns : goal.returns
returns g c = inl (c.in-Ok.now, c.now.new.self, c.in-Ok.ensures, inr (inr (refl, refl, refl)))
