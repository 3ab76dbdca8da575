use Rattle.std.proofs.Common.{◌∷◌, List, refl, sym, ap, ◌∙◌, arith}
use Rattle.cron_text.specs.Tokens.{Token}
use Rattle.cron_text.specs.Inner.Places.{token_between}
use Rattle.cron_text.proofs.Places.{none_at_end, symbol_spaced, gap_token}
use Rattle.cron_text.proofs.symbols.token_at.Goals as goal

pub returns-then-place-text-clause-token : goal.returns-then-place-text-clause-token
returns-then-place-text-clause-token c = none_at_end c.args.text.now c.args.place.at c.args.place.spaced (omega arith)

pub returns-clause-token : goal.returns-clause-token
returns-clause-token c =
    let t = token_between c.args.text.now c.args.place.at c.symbol_at-end.result.1 in
    let next = rw c.as_bytes.ensures.value at c.skip_space.ensures.same in
    record {
      token = record t { spaced = c.args.place.spaced };
      spaced = refl;
      symbol = c.symbol_at-end.ensures.seen ∙ sym (symbol_spaced c.args.place.spaced t);
      rest = gap_token c.args.place.spaced t _ _ refl c.symbol_at-end.ensures.rest
          ∙ ap (λ (ts : List Token). record t { spaced = c.args.place.spaced } ∷ ts) (sym next);
    }
