use Rattle.std.proofs.Common.{◌≡◌, ◌+◌, ◌<◌, zero, suc, List, [], ◌∷◌, ◌++◌, ℕ, Bool, true, false, not, Option, Some, None, Result, Ok, Err, IfOk, IfSome, length, subst, sym, refl, ap, ◌∙◌, arith}
use Rattle.std.specs.Io.{StopsAt, appended_bytes}
use Rattle.std.specs.Io.BufRead.{take_through, drop_through}
use Rattle.std.specs.Io.KnownBytes.{Consumes, IsAtEnd}
use Rattle.std.specs.declared.io.Error.{Error}
use Rattle.cron_checking.specs.Lines.{IsReadThrough}
use Rattle.cron_checking.specs.Reading.{Gives, IsCut, IsOneLine}
use Rattle.cron_checking.specs.Reads.{GaveLine}
use Rattle.cron_checking.specs.declared.line_reader.Given.TheVariants.{Line}
use Rattle.cron_checking.proofs.LineLemmas.{line_first, line_alone, line_last, one_at_most, none_after}
use Rattle.cron_checking.proofs.line_reader.read_line.Goals as goal

-- all of the buffer was appended to an empty one
appended_all : (old new : List ℕ) → old ≡ [] → appended_bytes old new ≡ new
appended_all old new e = rw e refl

at_end : {E : Type 0} (r : Result ℕ E) (n : ℕ) (P : Type 0) → r ≡ Ok n → n ≡ 0 → IfOk r (λ m. m ≡ 0 → P) → P
at_end (Ok m) n P e z h = h (cc)
at_end (Err x) n P e z h = absurd (cc)

ended : (old new : Option (List ℕ)) (bytes : List ℕ) → Consumes old new bytes → IsAtEnd old → Consumes old new [] × IsReadThrough old new
ended None new bytes c e = (tt, tt)
ended (Some xs) None bytes c e = absurd c
ended (Some xs) (Some []) bytes c e = (e, refl)
ended (Some xs) (Some (y ∷ ys)) [] c e = absurd (cc)
ended (Some xs) (Some (y ∷ ys)) (b ∷ bs) c e = absurd (cc)

-- a last piece without a line feed
last_piece : (old new : Option (List ℕ)) (piece before : List ℕ) → before ≡ [] → IsOneLine piece
    → IfSome old (λ xs. piece ≡ before ++ take_through 10 xs) → IfSome old (λ xs. new ≡ Some (drop_through 10 xs)) → IsReadThrough old new
last_piece None new piece before none h p q = tt
last_piece (Some xs) new piece before none h p q =
    let same : piece ≡ take_through 10 xs = rw none at p in
    subst IsAtEnd (sym (q ∙ ap (λ (t : List ℕ). Some t) (none_after xs (subst IsOneLine same h)))) refl

-- more than no byte was read
some_read : (size all before count : ℕ) → all ≡ size → all ≡ before + count → before ≡ 0 → (count ≡ 0 → ⊥) → 0 < size
some_read size all before zero e sum none some = absurd (some refl)
some_read size all before (suc count) e sum none some = omega arith

nonempty : (bytes : List ℕ) → 0 < length bytes → bytes ≡ [] → ⊥
nonempty bytes some e = let n : length bytes ≡ 0 = ap length e in absurd (omega arith)

pub returns-in-Ok-eq0-clause-gives : goal.returns-in-Ok-eq0-clause-gives
returns-in-Ok-eq0-clause-gives g c =
    ended _ _ _ c.read_once.ensures.none_lost
    (at_end c.read_once.result c.in-Ok-eq0.field-0 _ c.in-Ok-eq0.is c.in-Ok-eq0.field-0-test c.read_once.ensures.end)

-- the piece of a line
line_given : (old new : Option (List ℕ)) (piece line before : List ℕ) (ended last : Bool) → before ≡ [] → Consumes old new piece → IsCut piece line ended
    → last ≡ not ended → 0 < length piece → IfSome old (λ xs. piece ≡ before ++ take_through 10 xs) → IfSome old (λ xs. new ≡ Some (drop_through 10 xs))
    → Gives old new line (Line last)
line_given old new piece line before true last none c cut e some p q = (
  piece,
  c,
  rw cut.0 (line_alone line cut.1),
  λ more_follow more. rw cut.0 (line_first line more cut.1),
  λ is_last. absurd (cc),
)
line_given old new piece line before false last none c cut e some p q =
    let one = subst IsOneLine cut.0 cut.1 in (
      piece,
      c,
      rw cut.0 (line_last piece one (nonempty piece some)),
      λ more_follow. absurd (cc),
      λ is_last. last_piece old new piece before none one p q,
    )

pub returns-in-Ok-clause-gives : goal.returns-in-Ok-clause-gives
returns-in-Ok-clause-gives g c =
    let all = appended_all _ c.read_once.new.line.items c.clear.ensures.items in
    line_given _ _ c.read_once.new.line.items _ _ c.cut_line_feed.result _ c.clear.ensures.items (subst (Consumes _ _) all c.read_once.ensures.none_lost)
    c.cut_line_feed.ensures refl (some_read _ _ _ _ c.read_once.new.line.ok.0 c.in-Ok.ensures.ok c.clear.ensures.len c.in-Ok.field-0-test.1)
    c.in-Ok.ensures.bytes c.in-Ok.ensures.rest

pub returns-in-Err-clause-gives : goal.returns-in-Err-clause-gives
returns-in-Err-clause-gives g c =
    let all = appended_all _ c.read_once.new.line.items c.clear.ensures.items in (
      c.read_once.new.line.items,
      subst (Consumes _ _) all c.read_once.ensures.none_lost,
      one_at_most _ (subst (λ (t : List ℕ). StopsAt t 10) all c.read_once.ensures.stops),
    )

pub returns-in-Err-2-clause-gives : goal.returns-in-Err-2-clause-gives
returns-in-Err-2-clause-gives g c =
    let all = appended_all _ c.read_once.new.line.items c.clear.ensures.items in (
      c.read_once.new.line.items,
      subst (Consumes _ _) all c.read_once.ensures.none_lost,
      one_at_most _ (subst (λ (t : List ℕ). StopsAt t 10) all c.read_once.ensures.stops),
    )

pub cut_line_feed-requires : goal.cut_line_feed-requires
cut_line_feed-requires g c =
    let all = appended_all _ c.read_once.new.line.items c.clear.ensures.items in
    record {
      some = some_read _ _ _ _ c.read_once.new.line.ok.0 c.in-Ok.ensures.ok c.clear.ensures.len c.in-Ok.field-0-test.1;
      one = subst (λ
          (t : List ℕ). StopsAt t 10) all c.read_once.ensures.stops;
    }

-- a piece from which a line feed was taken
gave_line : (answer : Result ℕ Error) (n : ℕ) (piece line read : List ℕ) (ended last : Bool) → answer ≡ Ok n → read ≡ piece → IsCut piece line ended
    → last ≡ not ended → Line last ≡ Line false → GaveLine (record { answer = answer; bytes = read })
gave_line answer n piece line read true last is all cut e more = (rw is refl, (line, all ∙ cut.0))
gave_line answer n piece line read false last is all cut e more = absurd (cc)

pub returns-in-Ok-eq0-clause-call : goal.returns-in-Ok-eq0-clause-call
returns-in-Ok-eq0-clause-call g c = (record { answer = _; bytes = _ }, c.read_once.ensures.call, λ more. absurd (cc))

pub returns-in-Ok-clause-call : goal.returns-in-Ok-clause-call
returns-in-Ok-clause-call g c =
    let all = appended_all _ c.read_once.new.line.items c.clear.ensures.items in (
      record { answer = _; bytes = _ },
      c.read_once.ensures.call,
      gave_line _ _ _ _ _ c.cut_line_feed.result _ c.in-Ok.is all c.cut_line_feed.ensures refl,
    )

pub returns-in-Err-clause-call : goal.returns-in-Err-clause-call
returns-in-Err-clause-call g c = (record { answer = _; bytes = _ }, c.read_once.ensures.call, λ more. absurd (cc))

pub returns-in-Err-2-clause-call : goal.returns-in-Err-2-clause-call
returns-in-Err-2-clause-call g c = (record { answer = _; bytes = _ }, c.read_once.ensures.call, λ more. absurd (cc))
