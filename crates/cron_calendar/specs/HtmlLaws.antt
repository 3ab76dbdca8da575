-- What a reader of HTML finds in escaped texts.
use Rattle.std.specs.Prelude.{◌≡◌, ℕ, Bool, false, ◌==◌, ◌||◌, List, [], ◌∷◌}
use Rattle.cron_calendar.specs.Html.{escaped}

-- whether a byte begins or ends a tag or a quoted value: <, >, " or '
abbrev pub is_markup : ℕ → Bool
is_markup b = b == 60 || (b == 62 || (b == 34 || b == 39))

-- no byte of the text begins or ends a tag or a quoted value
abbrev pub HasNoMarkup : List ℕ → Type 0
HasNoMarkup [] = Unit {0}
HasNoMarkup (b ∷ bs) = (is_markup b ≡ false) × HasNoMarkup bs

-- an escaped text has no markup, whatever the text is
abbrev pub TextsHoldNoMarkup : Type 0
TextsHoldNoMarkup = (text : List ℕ) → HasNoMarkup (escaped text)
