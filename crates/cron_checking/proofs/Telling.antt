-- Lines that were read and told so far.
use Rattle.std.proofs.Common.{◌≡◌, ◌≤◌, ◌+◌, ◌||◌, ℕ, suc, Bool, true, false, Option, Some, None, Result, List, [], ◌∷◌, ◌++◌, length, inl, inr, refl, sym, ap, ◌∙◌, subst, append_assoc, append-nil, arith}
use Rattle.std.specs.Io.KnownBytes.{Consumes}
use Rattle.std.proofs.KnownBytes.{Consumes-nil, Consumes-trans}
use Rattle.cron_checking.specs.Lines.{lines_of, AreEnded, AreWhole, IsReadThrough}
use Rattle.cron_checking.specs.Reports.{TellsLine, TellsLines}
use Rattle.cron_checking.specs.declared.line.Telling.{Telling}
use Rattle.std.specs.declared.io.Error.{Error}
use Rattle.cron_writer.specs.Watching.{has_failed}
use Rattle.cron_writer.specs.declared.gathered.Gathered.{Gathered}
use Rattle.cron_writer.specs.declared.watched.Watched.{Watched}
use Rattle.cron_checking.specs.Checks.{EndsAt, line_not_utf8}
use Rattle.cron_checking.specs.Inner.{StopsAtLine, TellsAll, end_of, stop_line}
use Rattle.cron_checking.specs.Puts.{Puts}
use Rattle.cron_checking.specs.declared.check.Outcome.{Outcome}
use Rattle.cron_checking.specs.declared.check.Outcome.TheVariants.{AllRead, SomeRefused, OutOfMemory, WriteFailed, Unreadable, NotUtf8}
use Rattle.cron_checking.proofs.Putting.{put_on}

-- the bytes that were read so far are whole lines, each with its line feed
pub record IsReadSoFar (given now : Option (List ℕ)) (checked : List (List ℕ)) : Type 0 where
  pub bytes : List ℕ
  pub consumed : Consumes given now bytes
  pub cut : AreEnded bytes checked

pub nothing_read : (given : Option (List ℕ)) → IsReadSoFar given given []
nothing_read given = record { bytes = []; consumed = Consumes-nil given; cut = λ more. refl }

-- lines and then one more, each with its line feed
ended_on : (bytes piece line : List ℕ) (checked : List (List ℕ)) → AreEnded bytes checked → AreEnded piece (line ∷ [])
    → AreEnded (bytes ++ piece) (checked ++ line ∷ [])
ended_on bytes piece line checked h one more =
    ap lines_of (append_assoc bytes piece more)
    ∙ (h (piece ++ more) ∙ (ap (λ (ls : List (List ℕ)). checked ++ ls) (one more) ∙ sym (append_assoc checked (line ∷ []) (lines_of more))))

-- the bytes so far, and what was read behind them
pub read_on : (given now left : Option (List ℕ)) (checked : List (List ℕ)) (piece : List ℕ) (r : IsReadSoFar given now checked)
    → Consumes now left piece → Consumes given left (r.bytes ++ piece)
read_on given now left checked piece r c = Consumes-trans given now left r.bytes piece r.consumed c

-- one more line, with its line feed
pub line_read : (given now left : Option (List ℕ)) (checked : List (List ℕ)) (line piece : List ℕ) → IsReadSoFar given now checked
    → Consumes now left piece → AreEnded piece (line ∷ []) → IsReadSoFar given left (checked ++ line ∷ [])
line_read given now left checked line piece r c one =
    record {
      bytes = r.bytes ++ piece;
      consumed = read_on given now left checked piece r c;
      cut = ended_on r.bytes piece line checked r.cut one;
    }

-- nothing is behind the last line
pub read_whole : (given now left : Option (List ℕ)) (checked : List (List ℕ)) (piece : List ℕ) (r : IsReadSoFar given now checked)
    → Consumes now left piece → Consumes given left ((r.bytes ++ piece) ++ [])
read_whole given now left checked piece r c =
    subst (Consumes given left) (sym (append-nil (r.bytes ++ piece))) (read_on given now left checked piece r c)

no_line : lines_of [] ≡ []
unfolding lines_of
no_line = refl

pub no_piece : length (lines_of []) ≤ 1
no_piece = rw no_line (omega arith)

pub one_piece : (piece line : List ℕ) → lines_of piece ≡ line ∷ [] → length (lines_of piece) ≤ 1
one_piece piece line e = rw e (omega arith)

-- lines that are ended are the lines of their bytes
pub ended_lines : (bytes : List ℕ) (lines : List (List ℕ)) → AreEnded bytes lines → lines_of bytes ≡ lines
ended_lines bytes lines h =
    ap lines_of (sym (append-nil bytes)) ∙ (h [] ∙ (ap (λ (ls : List (List ℕ)). lines ++ ls) no_line ∙ append-nil lines))

pub read_through : (given now left : Option (List ℕ)) (bytes : List ℕ) → Consumes given now bytes → IsReadThrough now left → IsReadThrough given left
read_through None now left bytes c h = tt
read_through (Some x) None left bytes c h = absurd c
read_through (Some x) (Some y) left bytes c h = h

-- a line that was given is whole, and so are its bytes
pub given_whole : (now left : Option (List ℕ)) (piece line bytes : List ℕ) (last : Bool) → bytes ≡ line → lines_of piece ≡ line ∷ []
    → (last ≡ false → AreEnded piece (line ∷ [])) → (last ≡ true → IsReadThrough now left) → AreWhole now left piece (bytes ∷ [])
given_whole now left piece line bytes false is e more through = rw is (e, inl (more refl))
given_whole now left piece line bytes true is e more through = rw is (e, inr (through refl))

-- and so it is of the reader that gave the lines before it
pub whole_of : (given now left : Option (List ℕ)) (bytes piece : List ℕ) (lines : List (List ℕ)) → Consumes given now bytes
    → AreWhole now left piece lines → AreWhole given left piece lines
whole_of given now left bytes piece lines c (e, inl ended) = (e, inl ended)
whole_of given now left bytes piece lines c (e, inr through) = (e, inr (read_through given now left bytes c through))

-- whole lines and then one more
pub whole_on : (given now left : Option (List ℕ)) (checked : List (List ℕ)) (line piece : List ℕ) (r : IsReadSoFar given now checked)
    → AreWhole now left piece (line ∷ []) → AreWhole given left (r.bytes ++ piece) (checked ++ line ∷ [])
whole_on given now left checked line piece r (e, inl ended) =
    let all = ended_on r.bytes piece line checked r.cut ended in (ended_lines (r.bytes ++ piece) (checked ++ line ∷ []) all, inl all)
whole_on given now left checked line piece r (e, inr through) =
    (r.cut piece ∙ ap (λ (ls : List (List ℕ)). checked ++ ls) e, inr (read_through given now left r.bytes r.consumed through))

-- ---- what was told

none_or : (a : Bool) → (a || false) ≡ a
none_or true = refl
none_or false = refl

or_assoc : (a b c : Bool) → ((a || b) || c) ≡ (a || (b || c))
or_assoc true b c = refl
or_assoc false b c = refl

next_number : (number count : ℕ) → number + suc count ≡ (number + 1) + count
next_number number count = omega arith

-- one more line is told
pub line_told : (how : Telling) (number : ℕ) (lines : List (List ℕ)) (line report text : List ℕ) (refused bad : Bool)
    → TellsLines how number lines report refused
    → TellsLine how (number + length lines) line text bad → TellsLines how number (lines ++ line ∷ []) (report ++ text) (refused || bad)
line_told how number [] line report text refused bad (none, fine) h = (
  text,
  [],
  bad,
  false,
  ap (λ (r : List ℕ). r ++ text) none ∙ sym (append-nil text),
  ap (λ (r : Bool). r || bad) fine ∙ sym (none_or bad),
  subst (λ (n : ℕ). TellsLine how n line text bad) (omega arith) h,
  (refl, refl),
)
line_told how number (first ∷ lines) line report text refused bad (here, rest, one, others, e, f, t, more) h = (
  here,
  rest ++ text,
  one,
  others || bad,
  ap (λ (r : List ℕ). r ++ text) e ∙ append_assoc here rest text,
  ap (λ (r : Bool). r || bad) f ∙ or_assoc one others bad,
  t,
  line_told how (number + 1) lines line rest text others bad more (subst (λ (n : ℕ). TellsLine how n line text bad) (next_number number (length lines)) h),
)

-- ---- how the telling ends

-- all was read, and the lines of the bytes are those that were checked
pub ended_at : (end : Outcome) (given left : Option (List ℕ)) (front piece : List ℕ) (checked : List (List ℕ)) (refused : Bool) → end ≡ end_of refused
    → IsReadThrough given left → lines_of front ≡ checked → piece ≡ [] → EndsAt end given left front piece checked refused
ended_at end given left front piece checked true e h cut none = rw e (h, cut, none, refl)
ended_at end given left front piece checked false e h cut none = rw e (h, cut, none, refl)

-- and nothing but the report was put
pub ended_puts : (front : List ℕ) (end : Outcome) (refused : Bool) (count : ℕ) (report : List ℕ) → end ≡ end_of refused → report ≡ report ++ stop_line front end count
ended_puts front end true count report e = rw e (sym (append-nil report))
ended_puts front end false count report e = rw e (sym (append-nil report))

pub ended_unfailed : (end : Outcome) (refused : Bool) (P : Type 0) → end ≡ end_of refused → end ≡ WriteFailed → P
ended_unfailed end true P e f = absurd (cc)
ended_unfailed end false P e f = absurd (cc)

-- one line more was told, and a write of it failed; or the check ends at that line
pub line_stops : {W : Type 0} (contents : W → Option (List ℕ)) (writes : W → List ℕ → Result ℕ Error → W
    → Type 0) (how : Telling) (given now left : Option (List ℕ))
    (old mid new : Gathered) (was here is : Watched W) (checked : List (List ℕ)) (report : List ℕ) (refused : Bool) (number : ℕ)
    (line piece put : List ℕ) (end : Outcome)
    → IsReadSoFar given now checked → TellsLines how 1 checked report refused → number ≡ 1 + length checked → Puts contents writes old was mid here report
    → Consumes now left piece → AreWhole now left piece (line ∷ []) → StopsAtLine how number line end put (has_failed is)
    → Puts contents writes mid here new is put → TellsAll how (given, left) contents writes (old, was) (new, is) end
line_stops contents writes how given now left old mid new was here is checked report refused number line piece put AllRead r t n p c w h q = absurd h
line_stops contents writes how given now left old mid new was here is checked report refused number line piece put SomeRefused r t n p c w h q = absurd h
line_stops contents writes how given now left old mid new was here is checked report refused number line piece put Unreadable r t n p c w h q = absurd h
line_stops contents writes how given now left old mid new was here is checked report refused number line piece put OutOfMemory r t n p c w h q =
    record {
      checked = checked;
      front = r.bytes;
      piece = piece;
      report = report;
      refused = refused;
      read = read_on given now left checked piece r c;
      one_line = one_piece piece line w.0;
      ends = r.cut;
      tells = t;
      puts = subst (λ (s : List ℕ). Puts contents writes old was new is (report ++ s)) h (put_on contents writes old mid new was here is report put p q);
      failed = λ f. absurd (cc);
    }
line_stops contents writes how given now left old mid new was here is checked report refused number line piece put NotUtf8 r t n p c w h q =
    record {
      checked = checked;
      front = r.bytes;
      piece = piece;
      report = report;
      refused = refused;
      read = read_on given now left checked piece r c;
      one_line = one_piece piece line w.0;
      ends = (r.cut, line, whole_of given now left r.bytes piece (line ∷ []) r.consumed w, h.0);
      tells = t;
      puts =
          subst (λ (s : List ℕ). Puts contents writes old was new is (report ++ s)) (h.1 ∙ ap (line_not_utf8 how.front.now) (omega arith))
          (put_on contents writes old mid new was here is report put p q);
      failed = λ f. absurd (cc);
    }
line_stops contents writes how given now left old mid new was here is checked report refused number line piece put WriteFailed r t n p c w
    (failed, bad, told) q =
    record {
      checked = checked ++ line ∷ [];
      front = r.bytes ++ piece;
      piece = [];
      report = report ++ put;
      refused = refused || bad;
      read = read_whole given now left checked piece r c;
      one_line = no_piece;
      ends = (whole_on given now left checked line piece r w, refl);
      tells = line_told how 1 checked line report put refused bad t (subst (λ (k : ℕ). TellsLine how k line put bad) n told);
      puts = subst (Puts contents writes old was new is) (sym (append-nil (report ++ put))) (put_on contents writes old mid new was here is report put p q);
      failed = λ f. failed;
    }
