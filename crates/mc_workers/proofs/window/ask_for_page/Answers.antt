use Rattle.std.proofs.Common.{◌≡◌, Result, Err, ap, subst, ◌∙◌}
use Rattle.mc_pages.specs.declared.moves.Reassign.{Reassign}
use Rattle.mc_pages.specs.declared.moves.Reassign.TheVariants.{NoMemory}
use Rattle.mc_words.specs.page.Moves.{Reassigns}
use Rattle.mc_mover.specs.Acting.{ActsOnceByNumber}
use Rattle.mc_workers.proofs.window.ask_for_page.Goals as goal

-- the page was asked for, and memory was refused
pub returns-in-Err-NoMemory-clause-refused : goal.returns-in-Err-NoMemory-clause-refused
returns-in-Err-NoMemory-clause-refused g c =
    let refused : c.reassign.result ≡ Err (NoMemory tt) = c.in-Err-NoMemory.is ∙ ap (λ (answer : Reassign). Err answer) c.in-Err-NoMemory.field-0-is in (
      c.args.src,
      c.args.dst,
      subst (λ (answer : Result (Unit {0}) Reassign). ActsOnceByNumber (λ number. Reassigns number c.args.src c.args.dst answer) c.args.hand.now c.reassign.new.hand) refused c.reassign.ensures.reassigns,
    )
