use Rattle.std.proofs.Common.{◌≡◌, ◌≤◌, length, take}
use Rattle.std.specs.Prelude.{vec_capacity, vec_len}
use Rattle.cron.specs.Turns.{IsPlayed}
use Rattle.cron.proofs.schedule.play.Walker+Borrowed.play.Given as goal

abbrev pub invariant-loop-turn : goal.invariant-loop-turn
invariant-loop-turn l =
    IsPlayed l.initial.self (take l.turn-index l.turns) l.answers.items l.self
    × (vec_len l.answers ≡ l.turn-index) × (length l.turns ≤ vec_capacity l.answers)
