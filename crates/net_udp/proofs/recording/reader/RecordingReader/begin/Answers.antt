use Rattle.net_pcap.proofs.Standings.{refused_at_once}
use Rattle.net_udp.proofs.recording.reader.RecordingReader.begin.Goals as goal

pub returns-in_default-clause-err : goal.returns-in_default-clause-err
returns-in_default-clause-err g c = refused_at_once (g.R.Read.remaining c.args.reader.now.0)
