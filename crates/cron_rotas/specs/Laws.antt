-- What holds of every rota.
use Rattle.std.specs.Prelude.{◌≡◌, ◌<◌, ℤ, ◌-ℤ◌, true}
use Rattle.std.specs.Int.{int_max}
use Rattle.std.specs.List.{range_with_len, sum_by}
use Rattle.cron_stretches.specs.Stretches.{seconds_from}
use Rattle.cron_rotas.specs.Rotas.{Duty, is_rota, person_at, seconds_of_duty}

-- whoever has duty is one of the people
abbrev pub DutyIsOfThePeople : Type 0
DutyIsOfThePeople = (d : Duty) (t : ℤ) → is_rota d.people d.swaps ≡ true → person_at d t < d.people

-- the seconds of duty of all people add up to the seconds from one second on, or from the start, that come before another
abbrev pub SecondsOfDutyAddUp : Type 0
SecondsOfDutyAddUp =
    (d : Duty) (from to : ℤ)
    → is_rota d.people d.swaps ≡ true
    → sum_by (seconds_of_duty d from to) (range_with_len 0 d.people) ≡ seconds_from (to -ℤ int_max from d.start)
