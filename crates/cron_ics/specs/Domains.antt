-- Domains: names of a calendar's writer, which end the UIDs of its events.
use Rattle.std.specs.Prelude.{ℕ, ◌==◌, ◌&&◌, ◌||◌, not, nat_le, Bool, List, length}
use Rattle.std.specs.List.{list_all}

-- whether a byte is a letter or a digit of ASCII, a hyphen, a dot or an underscore
abbrev pub is_domain_byte : ℕ → Bool
is_domain_byte b =
    (nat_le 97 b && nat_le b 122) || (nat_le 65 b && nat_le b 90) || (nat_le 48 b && nat_le b 57) || b == 45 || b == 46 || b == 95

-- a domain has one such byte or more, and no other
abbrev pub is_domain : List ℕ → Bool
is_domain text = not (length text == 0) && list_all is_domain_byte text
