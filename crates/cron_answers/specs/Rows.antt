-- What is written of a fire.
use Rattle.std.specs.Prelude.{ℕ, ℤ, List, [], ◌∷◌, ◌++◌, codes}
use Rattle.std.specs.Fmt.{signed_decimal}
use Rattle.std.specs.List.{flat_map}
use Rattle.cron_replies.specs.declared.form.Form.{Form}
use Rattle.cron_replies.specs.declared.form.Form.TheVariants.{Text, Json}

-- the row of a fire as text: the fire's text and a line feed
abbrev pub text_row : List ℕ → List ℕ
text_row text = text ++ 10 ∷ []

-- the row of a fire as JSON, with its text and its instant:
-- `{"fire":"2022-11-06 01:30:00 -05:00","epoch":1667716200}`, and a line feed
abbrev pub json_row : List ℕ → ℤ → List ℕ
json_row text second =
    codes "{\"fire\":\"" ++ (text ++ (codes "\",\"epoch\":" ++ (signed_decimal second ++ (codes "}" ++ 10 ∷ []))))

-- the row of a fire, by its text and its instant in seconds
abbrev pub row : Form → List ℕ → ℤ → List ℕ
row Text text second = text_row text
row Json text second = json_row text second

-- the rows of some fires, one after another
abbrev pub rows : {A : Type 0} → Form → (A → List ℕ) → (A → ℤ) → List A → List ℕ
rows form text second fires = flat_map (λ fire. row form (text fire) (second fire)) fires
