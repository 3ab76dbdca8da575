-- How control characters are shown.
use Rattle.std.specs.Prelude.{ℕ, Bool, List, [], ◌∷◌, ◌++◌, ◌+◌, ◌/◌, ◌%◌, ◌==◌, ◌&&◌, ◌||◌, not, nat_lt, nat_le, if◌then◌else◌}
use Rattle.cron_controls.specs.declared.Controls.{Controls}
use Rattle.cron_controls.specs.declared.Controls.TheVariants.{Raw, Shown}

-- A byte is a control character of ASCII other than a tab or a line feed; or it follows the byte
-- 194 and ends one of the 32 control characters outside ASCII.
abbrev pub is_control : ℕ → ℕ → Bool
is_control before c =
    (nat_lt c 32 && not (c == 9 || c == 10)) || (c == 127 || (before == 194 && (nat_le 128 c && nat_le c 159)))

-- a digit of base 16
abbrev pub digit : ℕ → ℕ
digit n = if nat_lt n 10 then 48 + n else 87 + n

-- a byte, which follows the byte `before`, as a terminal shows it: `\x1b` for a control character,
-- or the byte itself
abbrev pub shown_byte : ℕ → ℕ → List ℕ
shown_byte before c = if is_control before c then 92 ∷ 120 ∷ digit (c / 16) ∷ digit (c % 16) ∷ [] else c ∷ []

abbrev pub shown_after : ℕ → List ℕ → List ℕ
shown_after before [] = []
shown_after before (c ∷ cs) = shown_byte before c ++ shown_after c cs

abbrev pub shown_by : Controls → List ℕ → List ℕ
shown_by Raw bytes = bytes
shown_by Shown bytes = shown_after 0 bytes
