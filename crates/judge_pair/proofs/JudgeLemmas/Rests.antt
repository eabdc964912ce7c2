-- What is left of two captures.
use Rattle.std.proofs.Common.{◌≡◌, ◌∷◌, true, List, [], length, Option, refl, sym, subst, ap, ◌∙◌, is_some}
use Rattle.std.proofs.lemmas.Bool.{false≢true}
use Rattle.tftp_packet.specs.Hosts.{Datagram, Header}
use Rattle.judge_pair.specs.Judge.{with_held, IsPairAfter, IsSideAfter, Pair, Side, IsLeftAfter, IsRestAfter, Left}
use Rattle.judge_pair.specs.Judge.Rest.{Rest}

pub left_on : (old new : Left) (held : Option Datagram) (part early : List Datagram) (h : Header) (read : List Datagram) (d : Datagram) → IsLeftAfter old held part early h read → IsSideAfter new.side h (d ∷ read)
    → new.merged ≡ old.merged → new.side.held ≡ old.side.held → is_some old.side.held ≡ true → IsLeftAfter new held part early h (d ∷ read)
left_on old new held part early h read d after side merged same there = record {
  side = side;
  waits = same ∙ after.waits;
  merged = merged ∙ after.merged;
  more = d ∷ after.more;
  is = ap (λ (ds : List Datagram). d ∷ ds) after.is;
  ends = λ none. absurd (false≢true (sym (ap (λ (o : Option Datagram). is_some o) (after.waits ∙ none)) ∙ there));
}

-- ---- of both

module _ (r : Rest) (h k : Header) (client server : List Datagram) (rest : IsRestAfter r h client k server) where
  pub with_client : (new : Left) (read : List Datagram) → IsLeftAfter new rest.held rest.but.part rest.early h read → IsRestAfter (record { client = new; server = r.server }) h read k server
  with_client new read left = record { held = rest.held; other_held = rest.other_held; early = rest.early; other_early = rest.other_early; but = rest.but; client_left = left; server_left = rest.server_left }

  pub with_server : (new : Left) (read : List Datagram) → IsLeftAfter new rest.other_held rest.but.other_part rest.other_early k read → IsRestAfter (record { client = r.client; server = new }) h client k read
  with_server new read left = record { held = rest.held; other_held = rest.other_held; early = rest.early; other_early = rest.other_early; but = rest.but; client_left = rest.client_left; server_left = left }

-- ---- as it begins

pub left_begins : (s : Side) (l : Left) (h : Header) (part read : List Datagram) → IsSideAfter s h read → read ≡ with_held s.held part → l.side ≡ s
    → ((p : List Datagram) → s.judge.fed ≡ length (with_held s.held p) → l.merged ≡ length p) → IsLeftAfter l s.held part read h read
left_begins s l h part read after is same merged = record {
  side = subst (λ (x : Side). IsSideAfter x h read) (sym same) after;
  waits = ap (λ (x : Side). x.held) same;
  merged = merged part (after.fed ∙ ap length is);
  more = [];
  is = refl;
  ends = λ _. refl;
}

pub rest_begins : (p : Pair) (r : Rest) (h k : Header) (client server : List Datagram) → IsPairAfter p h client k server
    → ((part : List Datagram) → client ≡ with_held p.client.held part → IsLeftAfter r.client p.client.held part client h client)
    → ((part : List Datagram) → server ≡ with_held p.server.held part → IsLeftAfter r.server p.server.held part server k server)
    → IsRestAfter r h client k server
rest_begins p r h k client server after mine theirs = record {
  held = p.client.held;
  other_held = p.server.held;
  early = client;
  other_early = server;
  but = after.merged;
  client_left = mine after.merged.part after.merged.is;
  server_left = theirs after.merged.other_part after.merged.other_is;
}
