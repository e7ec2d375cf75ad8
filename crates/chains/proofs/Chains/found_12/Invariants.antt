use Rattle.std.proofs.Common.{◌≡◌, ◌+◌, length}
use Rattle.std.specs.Slice.Iter.{iter_rest}
use Rattle.std.specs.Iterator.Adapters.{zip_first, zip_second}
use Rattle.chains.proofs.Laws.{is_found_below}
use Rattle.chains.proofs.Chains.found_12.Given as goal

abbrev pub invariant-loop-begun : goal.invariant-loop-begun
invariant-loop-begun l = record {
  begun : length l.yielded + length (iter_rest (zip_first l.begun-iterator)) ≡ 100;
  sums : length l.yielded + length (iter_rest (zip_second l.begun-iterator)) ≡ 100;
  found : l.found ≡ is_found_below l.self.begun l.self.sums (length l.yielded);
}
