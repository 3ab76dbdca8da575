-- Which months have a length, and in which years February has it.
use Rattle.std.specs.Prelude.{ℕ, pos, Bool, ◌||◌, nat_eq, nat_le}
use Rattle.jiff_core.specs.Calendar.{days_in_month}

-- the month has this length in leap years or in the others
abbrev pub can_have : ℕ → ℕ → Bool
can_have length m = nat_eq (days_in_month (pos 2000) m) length || nat_eq (days_in_month (pos 2001) m) length

-- the length is 30 or more, so February doesn't have it, or February has it in this year
abbrev pub suits_year : ℕ → ℕ → Bool
suits_year length y = nat_le 30 length || nat_eq (days_in_month (pos y) 2) length
