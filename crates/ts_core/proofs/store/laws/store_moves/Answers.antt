use Rattle.ts_core.proofs.store.Shown.{stands_shows}
use Rattle.ts_core.proofs.moves.StepStands.{step_stands}
use Rattle.ts_core.proofs.moves.MovesStand.{run_begins, cells_go, run_ends, grows}
use Rattle.ts_core.proofs.moves.LineStands.{line_put}
use Rattle.ts_core.proofs.moves.StoreNew.{new_stands_for}
use Rattle.std.specs.Prelude.{[], refl}
use Rattle.ts_core.specs.store.StoreData.{state_of}
use Rattle.ts_core.proofs.moves.LivesKept.{no_live, lives_left, lives_go, lives_grow, lives_line}
use Rattle.ts_core.proofs.moves.LiveWays.{new_total, replaced_total, left_total}
use Rattle.ts_core.proofs.moves.LeftOnData.{left-begins, left-moves, left-ends, left-last, left-grows, left-puts, falls-bound}
use Rattle.ts_core.proofs.store.laws.store_moves.Goals as goal

pub returns : goal.returns
returns c = record {
  new = new_stands_for;
  begins = λ k now e opening h st. run_begins opening h k now st e;
  steps = λ k m ps rest e a opening h st. step_stands opening h k m ps rest st e a;
  expires = λ k rs e opening h st. cells_go opening h k rs st e;
  ends = λ k e opening h st. run_ends opening h k st e;
  grows = λ k series columns rs facts once stay registered same spare opening h st. grows opening h k series columns rs facts st once stay registered same spare;
  line = λ k columns facts rs ss spare there puts opening h st lawful. line_put opening h k columns facts rs ss st spare there puts lawful;
  shows = λ k opening h st. stands_shows opening h (state_of k) st;
  lives = record {
    new = λ opening. no_live [] opening.rules;
    moved = λ k m ps rest once there a. lives_left m k.raw_mark k.columns ps once there k.rules a;
    gone = λ k rs e a. lives_go k.columns k.rules rs e a;
    grown = λ k series columns rs facts same spare a opening h st. lives_grow opening h k columns rs facts st same spare a;
    put = λ k columns facts ss n d p a. lives_line facts k.columns columns k.rules ss d p a;
  };
  ways = record {
    new = λ before after f r k once put inside new. new_total before after f once put r k inside new;
    replaced = λ before after f g r k rest once put inside old is. replaced_total before after f once put r k inside g old.there old.same old.only rest is;
    left = λ m mark before ps r k rest once there is. left_total m mark before ps once there r k rest is;
  };
  left = record {
    begins = left-begins;
    waiting = λ k now. (refl, refl);
    moves = left-moves;
    ends = left-ends;
    last = left-last;
    grows = left-grows;
    puts = left-puts;
    bound = falls-bound;
  };
}
