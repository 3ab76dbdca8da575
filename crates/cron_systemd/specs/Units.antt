-- How systemd 252 reads the lines of a unit. Only some of the forms that it reads are defined here.
use Rattle.std.specs.Prelude.{ℕ, ◌==◌, ◌&&◌, nat_eq, nat_lt, not, Bool, true, false, List, [], ◌∷◌, Option, Some, None, length, if◌then◌else◌}
use Rattle.std.specs.Char.{is_ascii_alphanumeric}
use Rattle.std.specs.List.{list_all, slice_split}
use Rattle.std.specs.Option.{option_map}
use Rattle.std.specs.Str.{bytes_eq}
use Rattle.cron_systemd.specs.declared.checks.End.{End}
use Rattle.cron_systemd.specs.declared.checks.End.TheVariants.{Backslash, Blank, Plain}
use Rattle.cron_systemd.specs.Values.{and_then, cut, onto}

-- A setting, in its section.
pub record Setting : Type 0 where
  pub section : List ℕ
  pub name : List ℕ
  pub value : List ℕ

-- ---- lines

-- What the bytes of a line so far end with, and one more byte. A blank at the end of a line is
-- removed, and a backslash there joins the line to the next one.
abbrev pub behind_backslash : End → End
behind_backslash Plain = Backslash
behind_backslash Blank = Backslash
behind_backslash Backslash = Plain

abbrev pub next_end : End → ℕ → End
next_end end c = if c == 32 then Blank else if c == 92 then behind_backslash end else Plain

abbrev pub is_printable : ℕ → Bool
is_printable c = nat_lt 31 c && nat_lt c 127

-- whether the rest of a line is read as it stands, where the bytes before it end so: each byte is
-- printable, and it ends with neither a blank nor a backslash that no other one precedes
abbrev pub is_end : End → Bool
is_end Plain = true
is_end Blank = false
is_end Backslash = false

abbrev pub stands : List ℕ → End → Bool
stands [] end = is_end end
stands (c ∷ cs) end = is_printable c && stands cs (next_end end c)

pub data Line : Type 0 where
  section : List ℕ → Line
  setting : List ℕ → List ℕ → Line

-- the name of a section, from the bytes after the first bracket
abbrev pub section_name : List ℕ → Option (List ℕ)
section_name [] = None
section_name (c ∷ []) = if c == 93 then Some [] else None
section_name (c ∷ d ∷ cs) = onto c (section_name (d ∷ cs))

-- whether a value begins with a byte that isn't a blank; an empty value takes other values back
abbrev pub begins : List ℕ → Bool
begins [] = false
begins (c ∷ cs) = not (c == 32)

-- a setting, from the name before `=` and the value after it
abbrev pub setting_by : List ℕ × List ℕ → Option Line
setting_by v = if list_all is_ascii_alphanumeric v.0 && begins v.1 then Some (setting v.0 v.1) else None

-- what a line is; none if systemd may read it otherwise than as it stands
abbrev pub line_of : List ℕ → Option Line
line_of [] = None
line_of (c ∷ cs) =
    if stands (c ∷ cs) Plain
    then (if c == 91 then option_map (λ name. section name) (section_name cs) else and_then (cut (c ∷ cs)) setting_by)
    else None

-- ---- units

-- the settings of lines, the first of which are in this section; an empty line means nothing
abbrev pub with_line : List ℕ → Option Line → (List ℕ → Option (List Setting)) → Option (List Setting)
with_line name None others = None
with_line name (Some (section new)) others = others new
with_line name (Some (setting key value)) others = option_map (λ ss. record { section = name; name = key; value = value } ∷ ss) (others name)

abbrev pub settings_in : List ℕ → List (List ℕ) → Option (List Setting)
settings_in name [] = Some []
settings_in name ([] ∷ lines) = settings_in name lines
settings_in name ((c ∷ cs) ∷ lines) = with_line name (line_of (c ∷ cs)) (λ new. settings_in new lines)

-- the settings of a text after a line of this section
abbrev pub settings_below : List ℕ → List ℕ → Option (List Setting)
settings_below name text = settings_in name (slice_split (nat_eq 10) text)

-- The settings of a unit. No line may be of 1 MiB or more, which surely none is if the text isn't.
abbrev pub settings_of : List ℕ → Option (List Setting)
settings_of text = if nat_lt (length text) 1_048_576 then settings_below [] text else None

-- the values of the settings with this name in this section
abbrev pub values_of : List ℕ → List ℕ → List Setting → List (List ℕ)
values_of heading name [] = []
values_of heading name (s ∷ ss) = if bytes_eq s.section heading && bytes_eq s.name name then s.value ∷ values_of heading name ss else values_of heading name ss
