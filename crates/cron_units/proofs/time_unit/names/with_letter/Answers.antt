use Rattle.std.proofs.Common.{◌+◌, ◌*◌, ◌∷◌, [], ◌++◌, ℕ, sym, subst}
use Rattle.cron_units.specs.Keys.{IsKey}
use Rattle.cron_units.proofs.KeyLemmas.{key_letter, key_long}
use Rattle.cron_units.proofs.time_unit.names.with_letter.Goals as goal

pub returns-then-key-ge-LONG_KEY : goal.returns-then-key-ge-LONG_KEY
returns-then-key-ge-LONG_KEY c = λ name k. key_long name c.args.key c.args.letter c.if-key-ge-LONG_KEY.true k

pub returns : goal.returns
returns c = λ name k.
    subst (λ (n : ℕ). IsKey (name ++ c.args.letter ∷ []) (c.args.key * 32 + n)) (sym c.from.ensures)
    (key_letter name c.args.key c.args.letter c.if-key-ge-LONG_KEY.false k)
