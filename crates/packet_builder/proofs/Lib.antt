mod ArpFrames
mod BuiltHeaders
mod Parts
mod TakenApart
