-- The definitions compute on a chunk with all parts. Assumes nothing.
use mathlib.Core.Path.{refl}
use Rattle.lundump.specs.Chunk.{fits, filled}
use Rattle.lundump.specs.Full.{FullRead, BytesRefused}
use Rattle.lundump.proofs.Examples.{readers}

pub full_read : FullRead
unfolding readers
full_read =
    record {
      counts = refl;
      words = refl;
      tags = refl;
      payloads = refl;
      names = refl;
      stripped = refl;
      level_32 = refl;
      unknown-tag = refl;
    }

pub bytes_refused : BytesRefused
unfolding readers fits filled
bytes_refused =
    record {
      header-bytes = refl;
      ends-early = refl;
      absent_short = refl;
      absent_long = refl;
      empty_string = refl;
      int_most = refl;
      int_over = refl;
      int_zeros = refl;
      size_most = refl;
      size_over = refl;
      short_words = refl;
      short_tags = refl;
      short_payloads = refl;
      short_names = refl;
      room = refl;
    }
