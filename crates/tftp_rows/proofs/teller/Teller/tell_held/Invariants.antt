use Rattle.std.proofs.Common.{◌≡◌, length, take, true}
use Rattle.tftp_rows.specs.Telling.{PrintsAllWith}
use Rattle.tftp_rows.proofs.teller.Teller.tell_held.Given as goal

-- the rows so far, the first of those that were held, were printed
abbrev pub invariant-loop-row : goal.invariant-loop-row
invariant-loop-row g l = record {
  first : l.yielded ≡ take (length l.yielded) l.fn.self.held.items;
  printed : PrintsAllWith g.W.Write.contents l.dropped l.initial.self.printer l.self.printer l.yielded;
  rest : l.self ≡ record l.initial.self { printer = l.self.printer };
  stays : l.initial.self.printer.writer.1 ≡ true → l.self.printer.writer.1 ≡ true;
}
