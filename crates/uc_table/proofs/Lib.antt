mod Pads
