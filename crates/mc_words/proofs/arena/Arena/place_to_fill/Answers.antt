use Rattle.std.proofs.Common.{ℕ, ◌<◌, sym, subst}
use Rattle.mc_words.specs.hand.View.{Setup}
use Rattle.mc_words.specs.rule.Layout.{data_word, config_from}
use Rattle.mc_words.proofs.Pages.Owners.{fill_near}
use Rattle.mc_words.proofs.arena.Arena.place_to_fill.Goals as goal

pub data_word-requires : goal.data_word-requires
data_word-requires c =
    let fresh = c.requires.fresh in
    let arena = c.requires.arena in
    let chunk = c.args.fresh.now.chunk in
    let in_range = subst (λ (n : ℕ). 0 < n) (sym fresh.room_is) c.requires.some in
    let below = fill_near c.args.hand.now.seat.me.0 chunk fresh.holding 0 fresh.found fresh.fresh in_range arena.lawful in
    record { in_range = subst (λ (p : Setup × ℕ). data_word p.0 p.1 chunk 0 < config_from p.0) (λ k. (arena.setup k, fresh.room_is k)) below }
