-- The first unknown tag and the first string past the bytes, as a search finds them.
-- Assumes nothing.
use Rattle.std.proofs.Common.{◌≡◌, refl, sym, ◌∙◌, ap, subst, List, ℕ, ◌<◌, length, zip, get_or, arith}
use Rattle.std.proofs.lemmas.Slice.Zip.{length-zip, get_or-zip}
use Rattle.std.specs.List.{position}
use Rattle.common.specs.Lowest.{lowest}
use Rattle.common.proofs.Position.{found, found_of}
use Rattle.tables.specs.Refusals.{unknown_tag, unknown_tag_at, string_past, constant_past, string_past_at, first_unknown_tag, first_string_past}

pub tag_found : (tags : List ℕ) → position unknown_tag tags ≡ found_of (first_unknown_tag tags) (length tags)
unfolding unknown_tag_at
tag_found tags = found unknown_tag 0 (unknown_tag_at tags) tags (λ k l. refl)

module _ (tags payloads : List ℕ) (bytes : ℕ) (h : length tags ≡ length payloads) where
  all_pairs : length (zip tags payloads) ≡ length tags
  all_pairs = length-zip tags payloads ∙ omega (arith, h)

  at : (k : ℕ) → k < length (zip tags payloads)
      → string_past_at tags payloads bytes k ≡ constant_past bytes (get_or (zip tags payloads) k (0, 0))
  unfolding string_past_at string_past
  at k l =
      let m : k < length tags = omega (arith, all_pairs, l) in
      ap (constant_past bytes) (sym (get_or-zip tags payloads k (0, 0) m (omega (arith, h, m))))

  pub string_found : position (constant_past bytes) (zip tags payloads)
      ≡ found_of (first_string_past tags payloads bytes) (length tags)
  string_found =
      subst (λ (n : ℕ). position (constant_past bytes) (zip tags payloads) ≡ found_of (lowest (string_past_at tags payloads bytes) n) n)
      all_pairs (found (constant_past bytes) (0, 0) (string_past_at tags payloads bytes) (zip tags payloads) at)
