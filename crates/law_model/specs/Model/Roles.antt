-- Which end has which part in a transfer (RFC 1350, section 1).
use Rattle.tftp_packet.specs.{Side, Get, Put, End, Client, Server}

-- on a read the server sends the file, on a write the client
abbrev pub sender_of : Side → End
sender_of Get = Server
sender_of Put = Client

abbrev pub receiver_of : Side → End
receiver_of Get = Client
receiver_of Put = Server

abbrev pub other_end : End → End
other_end Client = Server
other_end Server = Client
