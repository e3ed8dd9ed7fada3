use Rattle.blocks.proofs.Pages.{asks_words}
use Rattle.blocks.proofs.search.visit.Goals as goal

pub spread-requires : goal.spread-requires
spread-requires c = asks_words c.args.words.now c.args.p c.requires.0 c.successors-s.ensures
