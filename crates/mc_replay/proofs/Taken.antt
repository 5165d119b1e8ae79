-- Bytes that a reader gave, one piece after another.
use Rattle.std.proofs.Common.{◌≡◌, ℕ, List, ◌++◌, ap, append_assoc, sym, ◌∙◌}
use Rattle.mc_replay.specs.Reading.{GivesMore}

-- what was given so far, with the piece that came last
pub gave_piece : (first mid last old new : List ℕ) → mid ≡ first ++ old → GivesMore mid last old new → last ≡ first ++ new
gave_piece first mid last old new is more =
    more.gave ∙ ap (λ bytes. bytes ++ more.piece) is ∙ append_assoc first old more.piece ∙ ap (λ bytes. first ++ bytes) (sym more.appended)
