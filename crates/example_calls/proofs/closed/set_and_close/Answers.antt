use Rattle.mc_words.specs.hand.View.{View}
use Rattle.example_calls.proofs.closed.set_and_close.Goals as goal

-- the hand's view at the close is the one that the set left
pub returns : goal.returns
returns g c =
    let view : View = c.set-stored.new.hand.seat.me.0 in
    record { view = view; closes = c.close.ensures.closes; promise = c.views_give_headline.ensures view c.close.ensures.closes.was }
