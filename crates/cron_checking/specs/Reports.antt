-- The report of the lines of a file.
use Rattle.std.specs.Prelude.{◌≡◌, ◌+◌, ◌||◌, ℕ, ℤ, Bool, true, false, List, [], ◌∷◌, ◌++◌, ◌⊎◌, Option, Some, None, IsUtf8, codes}
use Rattle.std.specs.Fmt.{decimal}
use Rattle.jiff.specs.Words.{plain_zone}
use Rattle.jiff_tz.specs.declared.timezone.TimeZone.{TimeZone}
use Rattle.cron_units.specs.Sets.{Sets}
use Rattle.cron_moments.specs.MomentText.{moment_text}
use Rattle.cron_moments.specs.Readings.{Reading}
use Rattle.cron_text.specs.Meaning.{Means}
use Rattle.cron_text.specs.Fault.{IsRefusal}
use Rattle.cron_instants.specs.Instants.{IsFirstAfter}
use Rattle.cron_time.specs.Seconds.{Seconds}
use Rattle.cron_time.specs.Timeline.{seconds_of}
use Rattle.cron_checking.specs.Lines.{is_passed_over}
use Rattle.cron_canonical.specs.Short.{sets_text}
use Rattle.cron_checking.specs.declared.line.Mode.{Mode}
use Rattle.cron_checking.specs.declared.line.Mode.TheVariants.{Faults, Short, Next}
use Rattle.cron_checking.specs.declared.line.Telling.{Telling}

-- a line of the report: the text in front of each line, a line's number, `: `, a text and a line
-- feed
abbrev pub told : List ℕ → ℕ → List ℕ → List ℕ
told front number text = front ++ (decimal number ++ (codes ": " ++ (text ++ 10 ∷ [])))

abbrev pub item_text : Option Reading → List ℕ
item_text None = codes "none"
item_text (Some r) = moment_text r

-- the text is a report's line with the first fire of a set after the instant t, which is in
-- nanoseconds since 1970
abbrev pub TellsFirst : Seconds → TimeZone → ℤ → List ℕ → ℕ → List ℕ → Type 0
TellsFirst s z t front number text = (first : Option Reading) × IsFirstAfter s z t first × (text ≡ told front number (item_text first))

-- the text is what a mode reports of an expression that means the sets s
abbrev pub TellsSets : Mode → List ℕ → ℕ → Sets → List ℕ → Type 0
TellsSets Faults front number s text = text ≡ []
TellsSets Short front number s text = text ≡ told front number (sets_text s)
TellsSets (Next start zone) front number s text =
    TellsFirst (seconds_of s) (plain_zone zone) start.nanosecond front number text

-- the text is the report of a line that is UTF-8, and the flag says whether the line is refused
abbrev pub TellsText : Telling → ℕ → List ℕ → List ℕ → Bool → Type 0
TellsText how number line text true =
    (is_passed_over line ≡ false) × (fault : List ℕ) × IsRefusal line fault × (text ≡ told how.front.now number fault)
TellsText how number line text false =
    ((is_passed_over line ≡ true) × (text ≡ []))
    ⊎ ((is_passed_over line ≡ false) × (s : Sets) × Means line s × TellsSets how.mode how.front.now number s text)

-- the line is UTF-8, the text is its report, and the flag says whether the line is refused
abbrev pub TellsLine : Telling → ℕ → List ℕ → List ℕ → Bool → Type 0
TellsLine how number line text refused = IsUtf8 line × TellsText how number line text refused

-- the text is the reports of lines one after another, numbered from `number` on; the flag says
-- whether one of them is refused
abbrev pub TellsLines : Telling → ℕ → List (List ℕ) → List ℕ → Bool → Type 0
TellsLines how number [] text refused = (text ≡ []) × (refused ≡ false)
TellsLines how number (line ∷ lines) text refused =
    (here : List ℕ) × (rest : List ℕ) × (bad : Bool) × (others : Bool) × (text ≡ here ++ rest) × (refused ≡ (bad || others))
    × TellsLine how number line here bad × TellsLines how (number + 1) lines rest others
