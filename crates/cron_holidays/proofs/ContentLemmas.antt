-- Lines unfolded: the first one, with those that continue it, and the rest.
use Rattle.std.proofs.Common.{◌≡◌, ℕ, ◌+◌, Bool, true, false, List, [], ◌∷◌, ◌++◌, take, drop, map, refl, ap, sym, ◌∙◌, append_assoc, append-nil, add-one, one-add}
use Rattle.std.proofs.lemmas.List.{drop-map, take-map}
use Rattle.std.specs.Prelude.{Result, Ok}
use Rattle.std.specs.List.{prefix_len}
use Rattle.cron_crontab.specs.Items.{and_then}
use Rattle.cron_holidays.specs.Calendars.{Reading, with_content, with_contents}
use Rattle.cron_holidays.specs.Contents.{continues, joined, unfolded, unfolded_from}
use Rattle.cron_holidays.specs.Inner.Joined.{more_text}
use Rattle.cron_holidays.specs.Faults.{Refuses}
use Rattle.cron_holidays.specs.Lines.{Line}
use Rattle.cron_holidays.specs.Views.{line_view}
use Rattle.cron_holidays.specs.declared.fault.HolidayFault.{HolidayFault}
use Rattle.cron_holidays.specs.declared.fault.HolidayFault.TheVariants.{Refused as OfLine, OutOfMemory}
use Rattle.cron_holidays.specs.declared.fault.Refused.{Refused}
use Rattle.cron_holidays.specs.declared.lines.Line as code

-- a line with the text of those that continue it
abbrev pub whole : Line → List ℕ → Line
whole line text = record { number = line.number; text = text }

pub unfolded-first : (line : Line) (more : List Line)
    → unfolded_from line more ≡ whole line (line.text ++ more_text (take (prefix_len continues more) more)) ∷ unfolded (drop (prefix_len continues more) more)
unfolded-first line [] = rw append-nil refl
unfolded-first line (next ∷ more) = by_test (continues next) refl (unfolded-first (joined line next) more)
  where
    by_test : (b : Bool) → continues next ≡ b
        → unfolded_from (joined line next) more ≡ whole line ((line.text ++ drop 1 next.text) ++ more_text (take (prefix_len continues more) more)) ∷ unfolded (drop (prefix_len continues more) more)
        → unfolded_from line (next ∷ more) ≡ whole line (line.text ++ more_text (take (prefix_len continues (next ∷ more)) (next ∷ more))) ∷ unfolded (drop (prefix_len continues (next ∷ more)) (next ∷ more))
    by_test true is rest = rw (is, one-add) (rw append_assoc at rest)
    by_test false is rest = rw (is, append-nil) refl

-- the lines after the first line and those that continue it are read after it
pub contents-first : (reading : Reading) (line : Line) (more : List Line) (n : ℕ) (text : List ℕ) → n ≡ prefix_len continues more → text ≡ line.text ++ more_text (take n more)
    → with_contents reading (unfolded (line ∷ more)) ≡ and_then (with_content reading (whole line text)) (λ next. with_contents next (unfolded (drop n more)))
contents-first reading line more n text count joins =
    let first : unfolded (line ∷ more) ≡ whole line text ∷ unfolded (drop n more) = rw (joins, count) (unfolded-first line more) in
    ap (with_contents reading) first

-- so are those of the code
pub lines-first : (reading : Reading) (lines : List code.Line) (line : code.Line) (more : List code.Line) (n : ℕ) (text : List ℕ) → lines ≡ line ∷ more
    → n ≡ prefix_len continues (map line_view more) → text ≡ line.text.now ++ more_text (map line_view (take n more))
    → with_contents reading (unfolded (map line_view lines))
    ≡ and_then (with_content reading (whole (line_view line) text)) (λ next. with_contents next (unfolded (map line_view (drop (n + 1) lines))))
lines-first reading lines line more n text is count joins =
    let joined_up : text ≡ line.text.now ++ more_text (take n (map line_view more)) = joins ∙ ap (λ t. line.text.now ++ more_text t) (sym (take-map line_view n more)) in
    let rest : drop n (map line_view more) ≡ map line_view (drop (n + 1) lines) = rw (is, add-one) (drop-map line_view n more) in
    ap (λ t. with_contents reading (unfolded (map line_view t))) is
    ∙ (contents-first reading (line_view line) (map line_view more) n text count joined_up
    ∙ ap (λ t. and_then (with_content reading (whole (line_view line) text)) (λ next. with_contents next (unfolded t))) rest)

-- the line is read
pub read-first : (reading next : Reading) (line : Line) (lines : List code.Line) (n : ℕ) → with_content reading line ≡ Ok next
    → and_then (with_content reading line) (λ r. with_contents r (unfolded (map line_view (drop (n + 1) lines)))) ≡ with_contents next (unfolded (map line_view (drop (n + 1) lines)))
read-first reading next line lines n is = ap (λ t. and_then t (λ r. with_contents r (unfolded (map line_view (drop (n + 1) lines))))) is

-- what is refused first stays refused
pub refuses-then : {A B : Type 0} (a : Result A Refused) (f : A → Result B Refused) (fault : HolidayFault) → Refuses a fault → Refuses (and_then a f) fault
refuses-then a f (OfLine refused) is = ap (λ r. and_then r f) is
refuses-then a f OutOfMemory is = tt
