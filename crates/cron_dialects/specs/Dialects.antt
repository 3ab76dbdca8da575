-- Texts that mean something to a crontab and to this library too.
use Rattle.std.specs.Prelude.{◌≡◌, ℕ, List, [], ◌∷◌, Some, None}
use Rattle.cron_units.specs.Sets.{Sets}
use Rattle.cron_text.specs.Meaning.{Means}
use Rattle.cron_crontab.specs.Crontab as tabs
use Rattle.cron_crontab.specs.Crontab.{Meaning, further_word, nicknames, schedules, text_in, words}

-- The text is one word that stands for an expression in a crontab, with white space around it or none, and no line break in front of it.
abbrev pub IsNickname : List ℕ → Type 0
IsNickname text = (word expression : List ℕ) × (words text ≡ word ∷ []) × (text_in nicknames word ≡ Some expression) × (further_word text ≡ None)

-- a text that means something both to this library and to a crontab is a nickname
abbrev pub NicknamesAloneAreBoth : Type 0
NicknamesAloneAreBoth = (text : List ℕ) (s : Sets) (meaning : Meaning) → Means text s → tabs.Means text meaning → IsNickname text

-- what a text with a meaning to both means to a crontab is the one schedule that it means to this
-- library
abbrev pub MeaningsAgree : Type 0
MeaningsAgree = (text : List ℕ) (s : Sets) (meaning : Meaning) → Means text s → tabs.Means text meaning → meaning ≡ schedules (s ∷ [])

-- each nickname means the same to this library and to a crontab
abbrev pub NicknamesAreBoth : Type 0
NicknamesAreBoth = (text : List ℕ) → IsNickname text → (s : Sets) × Means text s × tabs.Means text (schedules (s ∷ []))
