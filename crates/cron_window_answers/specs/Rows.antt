-- The rows of windows.
use Rattle.std.specs.Prelude.{ℕ, ◌-ℤ◌, Bool, List, ◌++◌, codes}
use Rattle.std.specs.Fmt.{signed_decimal}
use Rattle.std.specs.List.{flat_map}
use Rattle.jiff_tz.specs.declared.timezone.TimeZone.{TimeZone}
use Rattle.cron_stretches.specs.declared.stretch.Stretch.{Stretch}
use Rattle.cron_replies.specs.declared.form.Form.{Form}
use Rattle.cron_replies.specs.declared.form.Form.TheVariants.{Text, Json}
use Rattle.cron_window_answers.specs.Texts.{instant_text}

-- the row of a window as text: when it opens, a tab, and when it closes
abbrev pub text_row : TimeZone → Stretch Bool → List ℕ
text_row z w = instant_text z w.first ++ (codes "\t" ++ (instant_text z w.end ++ codes "\n"))

-- the row of a window as JSON, with its length: `{"opens":"2024-01-05 22:00:00 -06:00",
-- "closes":"2024-01-08 06:00:00 -06:00","seconds":201600}`, on one line
abbrev pub json_row : TimeZone → Stretch Bool → List ℕ
json_row z w =
    codes "{\"opens\":\"" ++ (instant_text z w.first ++ (codes "\",\"closes\":\"" ++ (instant_text z w.end
    ++ (codes "\",\"seconds\":" ++ (signed_decimal (w.end -ℤ w.first) ++ codes "}\n")))))

abbrev pub row : Form → TimeZone → Stretch Bool → List ℕ
row Text z w = text_row z w
row Json z w = json_row z w

-- the rows of some windows, one after another
abbrev pub rows : Form → TimeZone → List (Stretch Bool) → List ℕ
rows form z windows = flat_map (row form z) windows
