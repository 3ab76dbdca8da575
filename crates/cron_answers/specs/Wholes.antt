-- Lines of a user's crontab that stand in place of an expression.
use Rattle.std.specs.Prelude.{◌≡◌, ◌⊎◌, ℕ, ◌==◌, ◌&&◌, ◌||◌, not, nat_eq, Bool, true, false, List, [], ◌∷◌, codes, if◌then◌else◌}
use Rattle.std.specs.Char.{is_ascii_alphabetic}
use Rattle.std.specs.List.{list_all, starts_with}
use Rattle.cron_crontab.specs.Crontab.{Meaning, reboot, schedules}
use Rattle.cron_tab_lines.specs.Bytes.{is_blank}
use Rattle.cron_tab_lines.specs.Entries.{Entry}
use Rattle.cron_tab_lines.specs.Lines.{IsLine, entry}
use Rattle.cron_tab_lines.specs.declared.kinds.Crontab.TheVariants.{User}
use Rattle.cron_tab_warnings.specs.Warnings.{in_numbers}
use Rattle.cron_answers.specs.Expressions.{clock_changes, IsReadAs, IsRefusedAs}
use Rattle.cron_answers.specs.declared.expression.Expression.{Expression}
use Rattle.cron_answers.specs.declared.expression.Expression.TheVariants.{Crontab, Reboot, Own, Quartz}
use Rattle.cron_answers.specs.declared.refusal.Refusal.{Refusal}

-- whether a byte is a digit or a sign of fields; `?` is one in other dialects
abbrev pub is_sign : ℕ → Bool
is_sign c = in_numbers c || (c == 63)

-- Whether the first word of a command has only digits and signs of fields. Then it may be a sixth
-- field, and the text an expression with a mistake.
abbrev pub begins_as_field : List ℕ → Bool
begins_as_field [] = true
begins_as_field (c ∷ cs) = if is_sign c then begins_as_field cs else is_blank c

-- whether a byte is one of fields in some dialect: a letter, a digit or a sign
abbrev pub is_in_field : ℕ → Bool
is_in_field c = is_ascii_alphabetic c || (is_sign c || (c == 35))

-- whether a command is one word that may be a field, perhaps with a name that is misspelt; no field
-- begins with a slash, as paths do
abbrev pub is_like_field : List ℕ → Bool
is_like_field command = not (starts_with nat_eq command (codes "/")) && list_all is_in_field command

-- whether a command may be a sixth field
abbrev pub may_be_field : List ℕ → Bool
may_be_field command = begins_as_field command || is_like_field command

-- the expression has the meaning of an entry, and the rule of its line
abbrev pub IsOfMeaning : List ℕ → Meaning → Expression → Type 0
IsOfMeaning text meaning (Crontab some changes) = (meaning ≡ schedules some) × (changes ≡ clock_changes text)
IsOfMeaning text meaning Reboot = meaning ≡ reboot
IsOfMeaning text meaning (Own one) = ⊥
IsOfMeaning text meaning (Quartz union) = ⊥

-- the text is a line of a user's crontab with this entry, and its command is no sixth field
abbrev pub HasEntry : List ℕ → Entry → Type 0
HasEntry text e = IsLine User text (entry e) × (may_be_field e.command ≡ false)

-- the text is a line with an entry, of this expression
abbrev pub IsOfEntry : List ℕ → Expression → Type 0
IsOfEntry text expression = (e : Entry) × HasEntry text e × IsOfMeaning text e.meaning expression

abbrev pub IsNoEntry : List ℕ → Type 0
IsNoEntry text = (e : Entry) → HasEntry text e → ⊥

-- The text is this expression. Or it is none, and is a line with it.
abbrev pub IsReadWhole : Bool → List ℕ → Expression → Type 0
IsReadWhole quartz text e =
    IsReadAs quartz text e ⊎ ((quartz ≡ false) × ((why : Refusal) × IsRefusedAs quartz text why) × IsOfEntry text e)

-- The text is no expression for this reason, and no line with one.
abbrev pub IsRefusedWhole : Bool → List ℕ → Refusal → Type 0
IsRefusedWhole quartz text why = IsRefusedAs quartz text why × (quartz ≡ false → IsNoEntry text)
