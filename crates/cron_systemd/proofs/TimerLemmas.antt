-- A timer is read back.
use Rattle.std.proofs.Common.{◌≡◌, ℕ, ◌==◌, Bool, true, false, not, nat_lt, List, [], ◌∷◌, ◌++◌, Some, length, map, refl, sym, ap, ◌∙◌, append_assoc}
use Rattle.std.specs.Prelude.{◌&&◌, codes}
use Rattle.std.specs.List.{flat_map, list_all}
use Rattle.std.specs.Str.{bytes_eq}
use Rattle.std.proofs.lemmas.Bool.{and_parts}
use Rattle.std.proofs.lemmas.List.{append-nil}
use Rattle.cron_shell.specs.Lines.{input_lines}
use Rattle.cron_systemd.specs.Sayable.{is_calendar}
use Rattle.cron_systemd.specs.Texts.{calendar_text, persistent_text, timer_end, timer_text}
use Rattle.cron_systemd.specs.Timers.{SaysTimer, answer}
use Rattle.cron_systemd.specs.Units.{Setting, begins, settings_below, settings_of, stands, values_of}
use Rattle.cron_systemd.specs.Values.{halved}
use Rattle.cron_systemd.specs.declared.checks.End.TheVariants.{Plain}
use Rattle.cron_systemd.proofs.LineLemmas.{one_setting}
use Rattle.cron_systemd.proofs.SignLemmas.{no_sign}

abbrev timer : List ℕ
timer = codes "Timer"

abbrev of_timer : List ℕ → List ℕ → Setting
of_timer name value = record { section = timer; name = name; value = value }

abbrev calendar_setting : List ℕ → Setting
calendar_setting line = of_timer (codes "OnCalendar") line

abbrev end_settings : Bool → List Setting
end_settings persistent =
    of_timer (codes "AccuracySec") (codes "1s") ∷ of_timer (codes "Persistent") (answer persistent)
    ∷ record { section = codes "Install"; name = codes "WantedBy"; value = codes "timers.target" } ∷ []

calendar_read : (line rest : List ℕ) (others : List Setting) → is_calendar line ≡ true → settings_below timer rest ≡ Some others
    → settings_below timer (calendar_text line ++ rest) ≡ Some (calendar_setting line ∷ others)
calendar_read line rest others is read =
    let parts = and_parts (stands line Plain) (begins line && list_all (λ c. not (c == 37)) line) is in
    let front = (and_parts (begins line) (list_all (λ c. not (c == 37)) line) parts.1).0 in
    ap (λ t. settings_below timer (codes "OnCalendar=" ++ t)) (append_assoc line (10 ∷ []) rest)
    ∙ one_setting timer (codes "OnCalendar") line (codes "OnCalendar=" ++ line) rest others (rw (parts.0, front) refl) parts.0 read

calendars_read : (lines : List (List ℕ)) (rest : List ℕ) (others : List Setting) → list_all is_calendar lines ≡ true → settings_below timer rest ≡ Some others
    → settings_below timer (flat_map calendar_text lines ++ rest) ≡ Some (map calendar_setting lines ++ others)
calendars_read [] rest others all read = read
calendars_read (line ∷ lines) rest others all read =
    let parts = and_parts (is_calendar line) (list_all is_calendar lines) all in
    ap (settings_below timer) (append_assoc (calendar_text line) (flat_map calendar_text lines) rest)
    ∙ calendar_read line (flat_map calendar_text lines ++ rest) (map calendar_setting lines ++ others) parts.0 (calendars_read lines rest others parts.1 read)

end_read : (persistent : Bool) → settings_below timer (persistent_text persistent ++ timer_end) ≡ Some (end_settings persistent)
end_read true = refl
end_read false = refl

-- what the settings say
calendars_back : (lines : List (List ℕ)) (persistent : Bool)
    → values_of timer (codes "OnCalendar") (map calendar_setting lines ++ end_settings persistent) ≡ lines
calendars_back [] persistent = refl
calendars_back (line ∷ lines) persistent = ap (λ ls. line ∷ ls) (calendars_back lines persistent)

passed : (heading name : List ℕ) (lines : List (List ℕ)) (rest : List Setting) → (bytes_eq timer heading && bytes_eq (codes "OnCalendar") name) ≡ false
    → values_of heading name (map calendar_setting lines ++ rest) ≡ values_of heading name rest
passed heading name [] rest differs = refl
passed heading name (line ∷ lines) rest differs = rw differs (passed heading name lines rest differs)

all_halved : (lines : List (List ℕ)) → list_all is_calendar lines ≡ true → map (halved 37 false) lines ≡ map (λ line. Some line) lines
all_halved [] all = refl
all_halved (line ∷ lines) all =
    let parts = and_parts (is_calendar line) (list_all is_calendar lines) all in
    let behind = (and_parts (stands line Plain) (begins line && list_all (λ c. not (c == 37)) line) parts.0).1 in
    let signs = (and_parts (begins line) (list_all (λ c. not (c == 37)) line) behind).1 in
    rw (no_sign 37 line signs, all_halved lines parts.1) refl

pub says_timer : (calendars : List ℕ) (persistent : Bool) → list_all is_calendar (input_lines calendars) ≡ true
    → nat_lt (length (timer_text calendars persistent)) 1_048_576 ≡ true → SaysTimer calendars persistent (timer_text calendars persistent)
says_timer calendars persistent all small =
    let lines = input_lines calendars in
    let whole : settings_below [] (timer_text calendars persistent) ≡ Some (map calendar_setting lines ++ end_settings persistent) =
    calendars_read lines (persistent_text persistent ++ timer_end) (end_settings persistent) all (end_read persistent) in
    record {
      settings = map calendar_setting lines ++ end_settings persistent;
      read = rw small whole;
      calendar = ap (map (halved 37 false)) (calendars_back lines persistent) ∙ all_halved lines all;
      persist = passed timer (codes "Persistent") lines (end_settings persistent) refl;
      wanted = passed (codes "Install") (codes "WantedBy") lines (end_settings persistent) refl;
    }
