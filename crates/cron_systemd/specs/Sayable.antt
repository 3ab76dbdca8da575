-- What a unit can hold.
use Rattle.std.specs.Prelude.{ℕ, ◌==◌, ◌&&◌, ◌||◌, not, nat_lt, Bool, true, false, List, [], ◌∷◌, Option, Some, None, length, slice_index, ◌-◌}
use Rattle.std.specs.Char.{is_ascii_alphanumeric}
use Rattle.std.specs.List.{list_all}
use Rattle.cron_systemd.specs.Units.{begins, stands}
use Rattle.cron_systemd.specs.declared.checks.End.TheVariants.{Plain}
use Rattle.cron_systemd.specs.Values.{begins_name, is_bare}

-- a byte of a word or an input: any but NUL
abbrev pub is_byte : ℕ → Bool
is_byte c = nat_lt 0 c && nat_lt c 256

abbrev pub begins_with_slash : List ℕ → Bool
begins_with_slash [] = false
begins_with_slash (c ∷ cs) = c == 47

-- whether the text is a program's path: it begins with a slash and doesn't end with one, has at most
-- 255 bytes, and each stands for itself in a word without quotes
abbrev pub is_path : List ℕ → Bool
is_path path = begins_with_slash path && (nat_lt (length path) 256 && (not (slice_index path (length path - 1) == 47) && list_all is_bare path))

abbrev pub is_user_byte : ℕ → Bool
is_user_byte c = is_ascii_alphanumeric c || (c == 45) || (c == 95)

-- whether the text is a user's name that systemd takes without a warning
abbrev pub is_user_name : List ℕ → Bool
is_user_name [] = false
is_user_name (c ∷ cs) = begins_name c && (nat_lt (length cs) 31 && list_all is_user_byte cs)

abbrev pub is_user : Option (List ℕ) → Bool
is_user None = true
is_user (Some name) = is_user_name name

-- whether the text is a value of `OnCalendar`: it stands in a line, isn't empty,
-- begins with no blank, and has no `%`
abbrev pub is_calendar : List ℕ → Bool
is_calendar line = stands line Plain && (begins line && list_all (λ c. not (c == 37)) line)
