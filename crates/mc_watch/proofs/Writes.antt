-- What several writes did, one after another.
use Rattle.std.proofs.Common.{◌≡◌, ℕ, List, [], ◌++◌, Option, Some, None, Result, Ok, Err, ap, ◌∙◌, subst, append_assoc, append-nil}
use Rattle.std.specs.Prelude.{OnErr, OnOk}
use Rattle.std.specs.Io.KnownBytes.{Appends}
use Rattle.std.proofs.KnownBytes.{Appends-trans}
use Rattle.mc_io.specs.declared.device.Fault.{Fault}
use Rattle.mc_io.specs.Device.{Extends}

-- a text was written, and then another, if that went well
pub appends_then : (r : Result (Unit {0}) Fault) (old mid new : Option (List ℕ)) (first second whole : List ℕ)
    → Appends old mid first → OnOk r (Appends mid new second) → first ++ second ≡ whole → OnOk r (Appends old new whole)
appends_then (Ok u) old mid new first second whole wrote then is = subst (λ text. Appends old new text) is (Appends-trans old mid new first second wrote then)
appends_then (Err e) old mid new first second whole wrote then is = tt

-- a text was written, and then a write failed
extends_from : (old mid new : Option (List ℕ)) (text : List ℕ) → Appends old mid text → Extends mid new → Extends old new
extends_from None mid new text wrote failed = tt
extends_from (Some xs) None new text wrote failed = absurd wrote
extends_from (Some xs) (Some ys) None text wrote failed = absurd failed
extends_from (Some xs) (Some ys) (Some zs) text wrote (more, is) = (text ++ more, is ∙ ap (λ bytes. bytes ++ more) wrote ∙ append_assoc xs text more)

pub extends_then : (r : Result (Unit {0}) Fault) (old mid new : Option (List ℕ)) (text : List ℕ)
    → Appends old mid text → Extends mid new → OnErr r (Extends old new)
extends_then (Ok u) old mid new text wrote failed = tt
extends_then (Err e) old mid new text wrote failed = extends_from old mid new text wrote failed

-- lines that were written one after another, and the text that they are
pub two_lines : (a b c : List ℕ) → (a ++ (b ++ [])) ++ c ≡ (a ++ b) ++ c
two_lines a b c = simp (append_assoc, append-nil)

pub six_lines : (a b c d e f : List ℕ) → a ++ (b ++ (c ++ (d ++ (e ++ (f ++ []))))) ≡ ((((a ++ b) ++ c) ++ d) ++ e) ++ f
six_lines a b c d e f = simp (append_assoc, append-nil)
