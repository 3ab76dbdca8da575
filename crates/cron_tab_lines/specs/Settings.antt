-- Settings: a name, `=`, a value.
use Rattle.std.specs.Prelude.{ℕ, List, [], ◌∷◌, Option, Some, None, Result, Ok, Err, ◌==◌, length, drop, if◌then◌else◌}
use Rattle.std.specs.List.{list_all, take_while}
use Rattle.cron_tab_lines.specs.Bytes.{behind, first, is_white, in_name, is_quote, in_quotes, in_quoted_name}
use Rattle.cron_tab_lines.specs.Refusals.{Refusal, no_value, open_quote, behind_quote}

-- the text between quotation marks, and the rest after the closing mark; `rest` must begin with the
-- mark
abbrev pub closed : ℕ → List ℕ → List ℕ → Option (List ℕ × List ℕ)
closed mark inner rest = if first rest == mark then Some (inner, drop 1 rest) else None

-- a name, bare or quoted, and the rest of the text after it
abbrev pub name_at : List ℕ → Option (List ℕ × List ℕ)
name_at text =
    if is_quote (first text)
    then closed (first text) (take_while (in_quoted_name (first text)) (drop 1 text)) (behind (in_quoted_name (first text)) (drop 1 text))
    else Some (take_while in_name text, behind in_name text)

-- a name, and the text after the `=` that follows it; white space around the `=` is skipped
abbrev pub equals : Option (List ℕ × List ℕ) → Option (List ℕ × List ℕ)
equals None = None
equals (Some cut) = if first (behind is_white cut.1) == 61 then Some (cut.0, behind is_white (drop 1 (behind is_white cut.1))) else None

abbrev pub name_of : List ℕ → Option (List ℕ × List ℕ)
name_of text = equals (name_at text)

-- the text without the white space at its end
abbrev pub trimmed : List ℕ → List ℕ
trimmed [] = []
trimmed (c ∷ cs) = if list_all is_white (c ∷ cs) then [] else c ∷ trimmed cs

-- a quoted value, if only white space follows the closing quotation mark
abbrev pub alone : Option (List ℕ × List ℕ) → Result (List ℕ) Refusal
alone None = Err open_quote
alone (Some cut) = if length (behind is_white cut.1) == 0 then Ok cut.0 else Err behind_quote

-- a value, bare or quoted
abbrev pub value_of : List ℕ → Result (List ℕ) Refusal
value_of text =
    if length text == 0 then Err no_value
    else if is_quote (first text) then alone (closed (first text) (take_while (in_quotes (first text)) (drop 1 text)) (behind (in_quotes (first text)) (drop 1 text)))
    else Ok (trimmed text)
