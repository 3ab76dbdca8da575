-- What the program `cron_next` writes: the lines of a walk's items, or a line that says why an
-- expression is refused. Texts are lists of bytes.
use Rattle.std.specs.Prelude.{◌≡◌, ℕ, ℤ, Bool, true, false, List, [], ◌∷◌, ◌++◌, ◌⊎◌, Option, Some, None, Result, ⊤, codes, map, replicate}
use Rattle.std.specs.Io.KnownBytes.{Appends}
use Rattle.std.specs.List.{flat_map}
use Rattle.jiff_tz.specs.declared.timezone.TimeZone.{TimeZone}
use Rattle.cron_units.specs.declared.way.Way.{Way}
use Rattle.cron_units.specs.declared.way.Way.TheVariants.{Ahead, Back}
use Rattle.cron_time.specs.Walk.Cursor.{Start, Walk, run_on}
use Rattle.cron_text.specs.Meaning.{Means}
use Rattle.cron_moments.specs.MomentText.{item_line}
use Rattle.cron_moments.specs.Readings.{Reading}
use Rattle.cron_units.specs.Sets.{Sets}
use Rattle.cron_text.specs.Fault.{IsRefusal}
use Rattle.cron_time.specs.Timeline.{timeline}
use Rattle.std.specs.declared.io.Error.{Error}
use Rattle.cron_writer.specs.Calls.{AreGathered, HandsOnLines, IsFlushed}
use Rattle.cron_writer.specs.Watching.{has_failed, writer_of, IsFrontSent}
use Rattle.cron_writer.specs.declared.watched.Watched.{Watched}
use Rattle.cron_walk_listing.specs.declared.run.Outcome.{Outcome}
use Rattle.cron_walk_listing.specs.declared.run.Outcome.TheVariants.{Listed, Refused, WriteFailed}

-- the line of what a walk answers; empty if the walk has ended
abbrev pub answer_line : Option Reading → List ℕ
answer_line None = []
answer_line (Some r) = item_line r

abbrev pub direction : Bool → Way
direction false = Ahead
direction true = Back

-- the first `count` answers of a walk, back or ahead
unfoldable pub answers_of : Bool → Walk → ℕ → List (Option Reading)
answers_of back w count = (run_on (timeline w.sets w.zone) w.zone (replicate count (direction back)) w.cursor).answers

-- the lines of the first `count` answers of a walk, back or ahead
unfoldable pub lines_of : Bool → Walk → ℕ → List ℕ
lines_of back w count = flat_map answer_line (answers_of back w count)

-- the first of two items if it is there, else the second
abbrev pub first_there : Option Reading → Option Reading → Option Reading
first_there (Some r) other = Some r
first_there None other = other

-- the last item among answers, if there is one
unfoldable pub last_item : List (Option Reading) → Option Reading
last_item [] = None
last_item (answer ∷ answers) = first_there (last_item answers) answer

-- the lines of the first `count` answers of a walk that starts at the instant `start`, in
-- nanoseconds since 1970
abbrev pub listing : Sets → TimeZone → ℤ → ℕ → Bool → List ℕ
listing s z start count back = lines_of back (record { sets = s; zone = z; cursor = Start start }) count

-- the text says why an expression is refused: its fault, or that memory ran out
abbrev pub IsTold : List ℕ → List ℕ → Type 0
IsTold expression told = IsRefusal expression told ⊎ (told ≡ codes "out of memory")

abbrev pub complaint : List ℕ → List ℕ
complaint told = codes "error: " ++ (told ++ 10 ∷ [])

-- the text has the lines of the items of the sets that the expression means
abbrev pub IsListing : List ℕ → TimeZone → ℤ → ℕ → Bool → List ℕ → Type 0
IsListing expression z start count back text = (s : Sets) × Means expression s × (text ≡ listing s z start count back)

-- the text is the line that says why the expression is refused
abbrev pub IsComplaint : List ℕ → List ℕ → Type 0
IsComplaint expression text = (told : List ℕ) × IsTold expression told × (text ≡ complaint told)

-- The text was written: the writer holds the whole of it, and the outcome is `done`. Or a write or
-- the flush failed, and the writer holds a beginning of the text, perhaps all of it.
abbrev pub Ends : Outcome → List ℕ → Option (List ℕ) → Option (List ℕ) → Outcome → Type 0
Ends done text old new Listed = (done ≡ Listed) × Appends old new text
Ends done text old new Refused = (done ≡ Refused) × Appends old new text
Ends done text old new WriteFailed = IsFrontSent old new text

-- What a run writes: a text for which `lists` holds, such as the list of the expression's items; or
-- the line that says why the expression is refused.
abbrev pub Writes : List ℕ → (List ℕ → Type 0) → Option (List ℕ) → Option (List ℕ) → Outcome → Type 0
Writes expression lists old new outcome =
    ((text : List ℕ) × lists text × Ends Listed text old new outcome)
    ⊎ ((text : List ℕ) × IsComplaint expression text × Ends Refused text old new outcome)

abbrev pub is_write_failure : Outcome → Bool
is_write_failure WriteFailed = true
is_write_failure _ = false

-- the lines of some items were gathered one after another, to be passed on in blocks; `was` and
-- `kept` are the bytes gathered before and after
abbrev pub GathersItems : {W : Type 0} → (W → List ℕ → Result ℕ Error → W → Type 0) → Watched W → Watched W → List ℕ → List ℕ → Type 0
GathersItems writes old new was kept = (items : List Reading) × AreGathered writes (map item_line items) old new was kept

-- the lines of some items were gathered, and at the end those still gathered were passed on
abbrev pub HandsOnItems : {W : Type 0} → (W → List ℕ → Result ℕ Error → W → Type 0) → Watched W → Watched W → Type 0
HandsOnItems writes old new = (items : List Reading) × HandsOnLines writes (map item_line items) old new

-- the lines of some items were gathered and passed on, and then the writer was flushed once, unless
-- a call had failed
abbrev pub HandsOnItemsFlushed :
    {W : Type 0} → (W → List ℕ → Result ℕ Error → W → Type 0) → (W → Result ⊤ Error → W → Type 0) → Watched W → Watched W → Type 0
HandsOnItemsFlushed {W} writes flushes old new =
    (last : Watched W) × HandsOnItems writes old last × IsFlushed flushes (writer_of last) (has_failed last) (writer_of new) (has_failed new)
