use Rattle.std.proofs.Common.{sym, ◌∙◌, subst, ◌≡◌, true}
use Rattle.cron_agenda.proofs.ListLemmas.{some_same}
use Rattle.cron_oncalendar.specs.Zones.{is_word}
use Rattle.cron_tab_systemd.proofs.ZoneLemmas.{one_word}
use Rattle.cron_tab_systemd.proofs.zones.word_of.Goals as goal

pub returns-in-Some-Named-clause-one : goal.returns-in-Some-Named-clause-one
returns-in-Some-Named-clause-one c = λ x same.
    subst (λ name. is_word name.now ≡ true) (some_same same) (one_word c.in-Some-Named.name.now (sym c.are_zone_bytes.ensures ∙ c.if-are_zone_bytes.true))
